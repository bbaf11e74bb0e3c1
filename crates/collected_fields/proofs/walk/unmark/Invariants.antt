use Rattle.std.proofs.Common.{◌≡◌, ℕ, length, get_or, nat_eq, true, false}
use Rattle.std.specs.List.{list_any}
use Rattle.collected_fields.proofs.walk.unmark.Given as goal

abbrev pub invariant-loop-number : goal.invariant-loop-number
invariant-loop-number l = (number : ℕ) → get_or l.marks.items number false ≡ true → list_any (nat_eq number) l.entered.items ≡ true

abbrev pub decreases-loop-number : goal.decreases-loop-number
decreases-loop-number l = length l.entered.items
