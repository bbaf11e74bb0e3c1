use Rattle.std.proofs.Common.{◌≡◌, ◌<◌, ℕ, ◌-◌, false, length}
use Rattle.collected_fields.specs.Reached.{is_marked_in}
use Rattle.collected_fields.proofs.reach.mark_all.Given as goal

abbrev pub invariant-loop-at : goal.invariant-loop-at
invariant-loop-at l = (T : ℕ) → is_marked_in l.marks.items T ≡ false → (is_marked_in l.fn.marks.items T ≡ false) × (T < l.at → is_marked_in l.others T ≡ false)

abbrev pub decreases-loop-at : goal.decreases-loop-at
decreases-loop-at l = length l.others - l.at
