use Rattle.std.proofs.Common.{◌-◌, ◌≡◌, List, false, ◌≤◌}
use Rattle.gateway_workers.specs.Tours.{door_members, Run}
use Rattle.gateway_journal.specs.DoorRuns.{disk_members, Did}
use Rattle.gateway_journal.proofs.working.work.Given as goal

abbrev pub invariant-turns : goal.invariant-turns
invariant-turns g l =
    ((runs : List Run) × Did (door_members g.D.Door) (disk_members g.J.Disk) l.gate l.initial.worker l.worker runs)
    × (l.worker.connections ≤ l.most) × (l.worker.failed ≡ false) × (g.D.Door.faults l.worker.door ≡ g.D.Door.faults l.initial.worker.door)

abbrev pub decreases-turns : goal.decreases-turns
decreases-turns g l = l.most - l.worker.connections
