use Rattle.std.proofs.Common.{◌≡◌}
use Rattle.account_journal.specs.Journals.{IsSound, Rests}
use Rattle.journal_load.proofs.loading.load.Given as goal

abbrev pub invariant-loop-round : goal.invariant-loop-round
invariant-loop-round g l = IsSound l.journal × Rests g.D.Disk.reads l.journal
