use denote.Param.Send.{sendable}
use Rattle.std.proofs.Crossing.{crosses}
use Rattle.gateway_connections.proofs.GateLemmas.{gate_sync}
use Rattle.gateway_workers.proofs.serving.run_slice.Goals as goal

pub for_each_mut-requires-sync-F : goal.for_each_mut-requires-sync-F
for_each_mut-requires-sync-F g c κs within = let runtime = c.type_bounds.sync-R in search (sendable, crosses, gate_sync) depth 20
