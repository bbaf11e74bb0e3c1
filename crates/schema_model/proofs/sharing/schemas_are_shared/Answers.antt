use denote.Exit.{no}
use denote.Param.Send.{param_send, arg_send}
use Rattle.schema_model.proofs.SharedSchemas.{schema_send, schema_sync}
use Rattle.schema_model.proofs.sharing.schemas_are_shared.Goals as goal

pub is_shared-requires-7-send-T : goal.is_shared-requires-7-send-T
is_shared-requires-7-send-T c κs = param_send 0 _ (arg_send _ no _ schema_send)

pub is_shared-requires-7-sync-T : goal.is_shared-requires-7-sync-T
is_shared-requires-7-sync-T c κs = record { shared = schema_sync.shared }
