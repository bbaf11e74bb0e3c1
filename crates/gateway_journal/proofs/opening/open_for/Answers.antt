-- The limits are those of the gate's clients.
use Rattle.std.proofs.Common.{refl}
use Rattle.std.proofs.lemmas.List.Elements.{All-get_or}
use Rattle.account_core.specs.Numbers.{FitsCap}
use Rattle.account_journal.specs.Histories.{no_limit}
use Rattle.gateway_workers.specs.PassedOn.{greatest}
use Rattle.gateway_journal.proofs.OpenedJournals.{left_by, opened_for, same_left}
use Rattle.gateway_journal.proofs.opening.open_for.Goals as goal

pub open-requires : goal.open-requires
open-requires g c = record { limits_are = λ k low. All-get_or (FitsCap greatest) c.in-Ok.limits.items k no_limit low c.in-Ok.ensures.fit }

pub returns-in-Ok-clause-kept : goal.returns-in-Ok-clause-kept
returns-in-Ok-clause-kept g c =
    opened_for g.D.Disk.reads g.D.Disk.image c.args.gate.now c.in-Ok.limits c.open.result c.in-Ok.ensures.limits
    c.open.ensures.sound c.open.ensures.limits c.open.ensures.rest c.open.ensures.closed

pub returns-in-Ok-clause-left : goal.returns-in-Ok-clause-left
returns-in-Ok-clause-left g c =
    left_by g.D.Disk.reads g.D.Disk.image g.D.Disk.moment g.D.Disk.image_since g.met.D.Disk.now_is_since g.met.D.Disk.reads_is_image
    c.args.disk c.open.result c.open.ensures.any_moment_err

pub returns-in-Err-clause-left : goal.returns-in-Err-clause-left
returns-in-Err-clause-left g c isnt b file told now = same_left (g.D.Disk.reads c.args.disk) (g.D.Disk.reads c.args.disk) b file refl told now
