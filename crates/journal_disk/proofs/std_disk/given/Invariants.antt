-- Interrupted calls have left the buffer's length as it was.
use Rattle.std.proofs.Common.{◌≡◌, length}
use Rattle.journal_disk.proofs.std_disk.given.Given as goal

abbrev pub invariant-loop : goal.invariant-loop
invariant-loop l = length l.into ≡ length l.initial.into
