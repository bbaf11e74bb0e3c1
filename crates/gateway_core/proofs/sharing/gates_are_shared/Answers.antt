use denote.Exit.{no}
use denote.Param.Send.{param_send, arg_send}
use Rattle.gateway_core.proofs.SharedGates.{gate_send, gate_sync}
use Rattle.gateway_core.proofs.sharing.gates_are_shared.Goals as goal

pub is_shared-requires-send-T : goal.is_shared-requires-send-T
is_shared-requires-send-T c κs = param_send 0 _ (arg_send _ no _ gate_send)

pub is_shared-requires-sync-T : goal.is_shared-requires-sync-T
is_shared-requires-sync-T c κs = record { shared = gate_sync.shared }
