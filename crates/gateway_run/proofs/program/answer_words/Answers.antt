-- The words were not read into a command, and doors and disks are as before.
use Rattle.std.proofs.Common.{ap, refl, Err}
use Rattle.account_commands.specs.PassedOn.{files_told}
use Rattle.gateway_run.specs.Serve.{doors_call, disks_call, outside_call}
use Rattle.gateway_run.proofs.WordEnds.{unread}
use Rattle.gateway_run.proofs.program.answer_words.Goals as goal

pub returns-in-Err : goal.returns-in-Err
returns-in-Err g c =
    unread c.args.words.now (files_told (g.F.Files.content c.args.files.now) (g.F.Files.faults c.args.files.now) (g.F.Files.faults c.args.files.now))
    (outside_call (doors_call g.D.Doors c.args.doors.now c.args.doors.now) (disks_call g.J.Disks c.args.disks.now c.args.disks.now)) c.in-Err.fault c.no_outcome.result
    (λ same. c.in-Err.ensures.usage (ap Err same)) c.no_outcome.ensures (λ name. refl) (refl, refl)
