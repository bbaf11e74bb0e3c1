use Rattle.std.proofs.Common.{◌-◌}
use Rattle.account_journal.proofs.Going.{IsReadingOn}
use Rattle.account_journal.proofs.reading.read_slots.Given as goal

abbrev pub invariant-slots : goal.invariant-slots
invariant-slots g l = IsReadingOn g.D.Disk.reads g.D.Disk.image g.D.Disk.moment g.D.Disk.image_since g.D.Disk.faults l.limits l.mark l.initial.disk l.disk l.reading

abbrev pub decreases-slots : goal.decreases-slots
decreases-slots g l = 4194304 - l.reading.used
