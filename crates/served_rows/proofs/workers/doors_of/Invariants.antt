use Rattle.std.proofs.Common.{◌≡◌, false, is_some}
use Rattle.std.specs.Prelude.{All}
use Rattle.served_rows.proofs.workers.doors_of.Given as goal

abbrev pub invariant-plans : goal.invariant-plans
invariant-plans l = All (λ door. is_some door.kept ≡ false) l.doors.items
