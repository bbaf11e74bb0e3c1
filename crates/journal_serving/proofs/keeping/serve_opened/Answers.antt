-- The door was started, and what was told of doors before is still so; or none was.
use Rattle.std.proofs.Common.{ap, Err}
use Rattle.gateway_journal.specs.PassedOn.{telling}
use Rattle.gateway_serving.specs.PassedOn.{door_members}
use Rattle.gateway_journal.specs.DoorRuns.{disk_members}
use Rattle.journal_serving.proofs.Endings.{was_kept}
use Rattle.journal_serving.proofs.keeping.serve_opened.Goals as goal

pub returns-in-Ok-start-clause-kept : goal.returns-in-Ok-start-clause-kept
returns-in-Ok-start-clause-kept g c =
    was_kept (door_members g.D.D.Door) (disk_members g.J.Disk)
    (telling g.D.D.W.Wire) c.args.gate.now c.args.serving.now c.args.journal _ _ _ c.serve_started.result.0 c.serve_started.result.1 c.start.ensures.stopped c.serve_started.ensures.ended

pub returns-in-Err-Failed-clause-kept : goal.returns-in-Err-Failed-clause-kept
returns-in-Err-Failed-clause-kept g c =
    let told = c.in-Err-Failed.ensures in
    (record { asked = told.refused.0; idle = told.refused.1; same = told.stopped }, told.cause (ap Err c.in-Err-Failed.field-0-is), c.close-in-Err-Failed.ensures)
