use Rattle.std.proofs.Common.{◌≡◌, ℕ, ◌<◌, ◌≤◌, slice_index}
use Rattle.cost_num.specs.declared.TheConstants.{PLACES}
use Rattle.cost_num.proofs.weights.first_too_fine.Given as goal

abbrev pub invariant-loop-place : goal.invariant-loop-place
invariant-loop-place l = record {
  past : PLACES ≤ l.place;
  zeros : (k : ℕ) → PLACES ≤ k → k < l.place → slice_index l.fraction k ≡ 48;
}
