use Rattle.std.proofs.Common.{◌-◌, ◌≡◌, List, false, ◌≤◌}
use Rattle.gateway_connections.specs.Exchanges.{service_of}
use Rattle.gateway_workers.specs.Tours.{door_members, Run}
use Rattle.gateway_workers.specs.Workers.{Did}
use Rattle.gateway_workers.proofs.working.work.Given as goal

abbrev pub invariant-turns : goal.invariant-turns
invariant-turns g l =
    ((runs : List Run) × Did (door_members g.D.Door) (service_of l.gate) l.gate.accounts l.initial.worker l.worker runs)
    × (l.worker.connections ≤ l.most) × (l.worker.failed ≡ false) × (g.D.Door.faults l.worker.door ≡ g.D.Door.faults l.initial.worker.door)

abbrev pub decreases-turns : goal.decreases-turns
decreases-turns g l = l.most - l.worker.connections
