use Rattle.std.proofs.Common.{◌-◌, length}
use Rattle.account_journal.proofs.Opening.{IsUnderWay}
use Rattle.account_journal.proofs.recovery.settle_all.Given as goal

abbrev pub invariant-loop-at : goal.invariant-loop-at
invariant-loop-at g l = IsUnderWay g.D.Disk.reads g.D.Disk.image g.D.Disk.moment g.D.Disk.image_since g.D.Disk.faults l.fn.journal l.now l.opens l.at

abbrev pub decreases-loop-at : goal.decreases-loop-at
decreases-loop-at g l = length l.opens - l.at
