use denote.Exit.{no}
use denote.Param.Send.{param_send, arg_send}
use Rattle.cost_directives.proofs.SharedWeights.{weights_send, weights_sync}
use Rattle.cost_directives.proofs.sharing.weights_are_shared.Goals as goal

pub is_shared-requires-send-T : goal.is_shared-requires-send-T
is_shared-requires-send-T c κs = param_send 0 _ (arg_send _ no _ weights_send)

pub is_shared-requires-sync-T : goal.is_shared-requires-sync-T
is_shared-requires-sync-T c κs = record { shared = weights_sync.shared }
