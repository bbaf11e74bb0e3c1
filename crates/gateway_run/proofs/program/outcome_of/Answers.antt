-- By the command: what it came to, and that doors and disks are as before.
use Rattle.std.proofs.Common.{sym, subst, refl}
use Rattle.account_commands.specs.PassedOn.{files_told}
use Rattle.gateway_run.specs.Serve.{doors_call, disks_call, outside_call}
use Rattle.gateway_run.specs.Program.{CommandCameTo}
use Rattle.gateway_run.proofs.program.outcome_of.Goals as goal

pub returns-in-Check : goal.returns-in-Check
returns-in-Check g c =
    subst (λ command. CommandCameTo command (files_told (g.F.Files.content c.args.files.now) (g.F.Files.faults c.args.files.now) (g.F.Files.faults c.check.new.files))
    (outside_call (doors_call g.D.Doors c.args.doors.now c.args.doors.now) (disks_call g.J.Disks c.args.disks.now c.args.disks.now)) c.check.result)
    (sym c.in-Check.is) (c.check.ensures, (refl, refl))

pub returns-in-Price : goal.returns-in-Price
returns-in-Price g c =
    subst (λ command. CommandCameTo command (files_told (g.F.Files.content c.args.files.now) (g.F.Files.faults c.args.files.now) (g.F.Files.faults c.price.new.files))
    (outside_call (doors_call g.D.Doors c.args.doors.now c.args.doors.now) (disks_call g.J.Disks c.args.disks.now c.args.disks.now)) c.price.result)
    (sym c.in-Price.is) (c.price.ensures, (refl, refl))

pub returns-in-Explain : goal.returns-in-Explain
returns-in-Explain g c =
    subst (λ command. CommandCameTo command (files_told (g.F.Files.content c.args.files.now) (g.F.Files.faults c.args.files.now) (g.F.Files.faults c.explain.new.files))
    (outside_call (doors_call g.D.Doors c.args.doors.now c.args.doors.now) (disks_call g.J.Disks c.args.disks.now c.args.disks.now)) c.explain.result)
    (sym c.in-Explain.is) (c.explain.ensures, (refl, refl))

pub returns-in-ExplainSchema : goal.returns-in-ExplainSchema
returns-in-ExplainSchema g c =
    subst (λ command. CommandCameTo command (files_told (g.F.Files.content c.args.files.now) (g.F.Files.faults c.args.files.now) (g.F.Files.faults c.explain_schema.new.files))
    (outside_call (doors_call g.D.Doors c.args.doors.now c.args.doors.now) (disks_call g.J.Disks c.args.disks.now c.args.disks.now)) c.explain_schema.result)
    (sym c.in-ExplainSchema.is) (c.explain_schema.ensures, (refl, refl))

pub returns-in-Audit : goal.returns-in-Audit
returns-in-Audit g c =
    subst (λ command. CommandCameTo command (files_told (g.F.Files.content c.args.files.now) (g.F.Files.faults c.args.files.now) (g.F.Files.faults c.audit.new.files))
    (outside_call (doors_call g.D.Doors c.args.doors.now c.args.doors.now) (disks_call g.J.Disks c.args.disks.now c.args.disks.now)) c.audit.result)
    (sym c.in-Audit.is) (c.audit.ensures, (refl, refl))

pub returns-in-Introspect : goal.returns-in-Introspect
returns-in-Introspect g c =
    subst (λ command. CommandCameTo command (files_told (g.F.Files.content c.args.files.now) (g.F.Files.faults c.args.files.now) (g.F.Files.faults c.introspect.new.files))
    (outside_call (doors_call g.D.Doors c.args.doors.now c.args.doors.now) (disks_call g.J.Disks c.args.disks.now c.args.disks.now)) c.introspect.result)
    (sym c.in-Introspect.is) (c.introspect.ensures, (refl, refl))

pub returns-in-Worst : goal.returns-in-Worst
returns-in-Worst g c =
    subst (λ command. CommandCameTo command (files_told (g.F.Files.content c.args.files.now) (g.F.Files.faults c.args.files.now) (g.F.Files.faults c.worst.new.files))
    (outside_call (doors_call g.D.Doors c.args.doors.now c.args.doors.now) (disks_call g.J.Disks c.args.disks.now c.args.disks.now)) c.worst.result)
    (sym c.in-Worst.is) (c.worst.ensures, (refl, refl))

pub returns-in-Forward : goal.returns-in-Forward
returns-in-Forward g c =
    subst (λ command. CommandCameTo command (files_told (g.F.Files.content c.args.files.now) (g.F.Files.faults c.args.files.now) (g.F.Files.faults c.forward.new.files))
    (outside_call (doors_call g.D.Doors c.args.doors.now c.args.doors.now) (disks_call g.J.Disks c.args.disks.now c.args.disks.now)) c.forward.result)
    (sym c.in-Forward.is) (c.forward.ensures, (refl, refl))

pub returns-in-Meter : goal.returns-in-Meter
returns-in-Meter g c =
    subst (λ command. CommandCameTo command (files_told (g.F.Files.content c.args.files.now) (g.F.Files.faults c.args.files.now) (g.F.Files.faults c.meter.new.files))
    (outside_call (doors_call g.D.Doors c.args.doors.now c.args.doors.now) (disks_call g.J.Disks c.args.disks.now c.args.disks.now)) c.meter.result)
    (sym c.in-Meter.is) (c.meter.ensures, (refl, refl))

pub returns-in-Replay : goal.returns-in-Replay
returns-in-Replay g c =
    subst (λ command. CommandCameTo command (files_told (g.F.Files.content c.args.files.now) (g.F.Files.faults c.args.files.now) (g.F.Files.faults c.replay.new.files))
    (outside_call (doors_call g.D.Doors c.args.doors.now c.args.doors.now) (disks_call g.J.Disks c.args.disks.now c.args.disks.now)) c.replay.result)
    (sym c.in-Replay.is) (c.replay.ensures, (refl, refl))

pub returns-in-Exercise : goal.returns-in-Exercise
returns-in-Exercise g c =
    subst (λ command. CommandCameTo command (files_told (g.F.Files.content c.args.files.now) (g.F.Files.faults c.args.files.now) (g.F.Files.faults c.args.files.now))
    (outside_call (doors_call g.D.Doors c.args.doors.now c.args.doors.now) (disks_call g.J.Disks c.args.disks.now c.args.disks.now)) c.exercise.result)
    (sym c.in-Exercise.is) ((c.exercise.ensures, λ name. refl), (refl, refl))

pub returns-in-Migrate : goal.returns-in-Migrate
returns-in-Migrate g c =
    subst (λ command. CommandCameTo command (files_told (g.F.Files.content c.args.files.now) (g.F.Files.faults c.args.files.now) (g.F.Files.faults c.migrate.new.files))
    (outside_call (doors_call g.D.Doors c.args.doors.now c.args.doors.now) (disks_call g.J.Disks c.args.disks.now c.args.disks.now)) c.migrate.result)
    (sym c.in-Migrate.is) (c.migrate.ensures, (refl, refl))

pub returns-in-Serve : goal.returns-in-Serve
returns-in-Serve g c =
    subst (λ command. CommandCameTo command (files_told (g.F.Files.content c.args.files.now) (g.F.Files.faults c.args.files.now) (g.F.Files.faults c.serve.new.files))
    (outside_call (doors_call g.D.Doors c.args.doors.now c.serve.new.doors) (disks_call g.J.Disks c.args.disks.now c.serve.new.disks)) c.serve.result)
    (sym c.in-Serve.is) c.serve.ensures
