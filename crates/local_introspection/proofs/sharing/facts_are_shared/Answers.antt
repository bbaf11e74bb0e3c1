use denote.Exit.{no}
use denote.Param.Send.{param_send, arg_send}
use Rattle.local_introspection.proofs.SharedFacts.{facts_send, facts_sync}
use Rattle.local_introspection.proofs.sharing.facts_are_shared.Goals as goal

pub is_shared-requires-send-T : goal.is_shared-requires-send-T
is_shared-requires-send-T c κs = param_send 0 _ (arg_send _ no _ facts_send)

pub is_shared-requires-sync-T : goal.is_shared-requires-sync-T
is_shared-requires-sync-T c κs = record { shared = facts_sync.shared }
