-- What the worker did is what came of the door.
use Rattle.std.proofs.Common.{refl, false}
use Rattle.gateway_workers.specs.PassedOn.{telling}
use Rattle.gateway_workers.specs.Tours.{door_members}
use Rattle.gateway_workers.specs.declared.work_done.WorkDone.{WorkDone}
use Rattle.gateway_journal.specs.declared.worker.KeptWorker.{KeptWorker}
use Rattle.gateway_journal.specs.DoorRuns.{disk_members}
use Rattle.gateway_journal.proofs.ServedDoors.{still_there, serves_door, loses_door}
use Rattle.gateway_journal.proofs.door.serve_door.Goals as goal

pub returns-then-stands-clause-kept : goal.returns-then-stands-clause-kept
returns-then-stands-clause-kept g c =
    let t = door_members g.D.Door in
    let m = disk_members g.J.Disk in
    let tell = telling g.D.W.Wire in
    let before : KeptWorker _ _ = record { door = c.args.door; kept = record { journal = c.args.journal }; connections = 0; replies = 0; failed = false } in
    let done : WorkDone = record { connections = c.from.result; exchanges = c.work-stands.new.worker.replies; faults = c.one_if.result } in
    (still_there t m tell c.args.gate.now c.args.connections before c.work-stands.new.worker done refl refl c.from.ensures refl c.one_if.ensures c.work-stands.result c.if-stands.true c.work-stands.ensures).1.belongs

pub returns-then-stands-clause-idle : goal.returns-then-stands-clause-idle
returns-then-stands-clause-idle g c =
    let t = door_members g.D.Door in
    let m = disk_members g.J.Disk in
    let tell = telling g.D.W.Wire in
    let before : KeptWorker _ _ = record { door = c.args.door; kept = record { journal = c.args.journal }; connections = 0; replies = 0; failed = false } in
    let done : WorkDone = record { connections = c.from.result; exchanges = c.work-stands.new.worker.replies; faults = c.one_if.result } in
    (still_there t m tell c.args.gate.now c.args.connections before c.work-stands.new.worker done refl refl c.from.ensures refl c.one_if.ensures c.work-stands.result c.if-stands.true c.work-stands.ensures).1.idle

pub returns-then-stands-clause-served : goal.returns-then-stands-clause-served
returns-then-stands-clause-served g c =
    let t = door_members g.D.Door in
    let m = disk_members g.J.Disk in
    let tell = telling g.D.W.Wire in
    let before : KeptWorker _ _ = record { door = c.args.door; kept = record { journal = c.args.journal }; connections = 0; replies = 0; failed = false } in
    let done : WorkDone = record { connections = c.from.result; exchanges = c.work-stands.new.worker.replies; faults = c.one_if.result } in
    serves_door t m tell c.args.gate.now c.args.connections before c.work-stands.new.worker done refl refl c.from.ensures refl c.one_if.ensures (still_there t m tell c.args.gate.now c.args.connections before c.work-stands.new.worker done refl refl c.from.ensures refl c.one_if.ensures c.work-stands.result c.if-stands.true c.work-stands.ensures)

pub returns-else-stands-clause-lost : goal.returns-else-stands-clause-lost
returns-else-stands-clause-lost g c =
    let t = door_members g.D.Door in
    let m = disk_members g.J.Disk in
    let tell = telling g.D.W.Wire in
    let before : KeptWorker _ _ = record { door = c.args.door; kept = record { journal = c.args.journal }; connections = 0; replies = 0; failed = false } in
    let done : WorkDone = record { connections = c.from.result; exchanges = c.work-stands.new.worker.replies; faults = c.one_if.result } in
    loses_door t m tell c.args.gate.now c.args.connections before c.work-stands.new.worker done refl refl c.from.ensures refl c.one_if.ensures c.into_disk.result c.into_disk.ensures c.work-stands.result c.if-stands.false c.work-stands.ensures
