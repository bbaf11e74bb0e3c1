use Rattle.std.proofs.Common.{◌≡◌, ℕ, ◌+◌, ◌-◌, length}
use Rattle.collected_fields.specs.Reached.{is_marked_in}
use Rattle.collected_fields.proofs.reach.mark.Given as goal

abbrev pub invariant-loop-marks : goal.invariant-loop-marks
invariant-loop-marks l = (T : ℕ) → is_marked_in l.marks.items T ≡ is_marked_in l.fn.marks.items T

abbrev pub decreases-loop-marks : goal.decreases-loop-marks
decreases-loop-marks l = l.number + 1 - length l.marks.items
