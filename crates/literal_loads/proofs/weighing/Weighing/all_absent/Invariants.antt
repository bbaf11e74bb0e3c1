use Rattle.std.proofs.Common.{[], drop, All}
use Rattle.literal_loads.specs.Sums.{IsSum}
use Rattle.literal_loads.specs.KnownInputs.{scale_of, all_placed, IsAbsentRight}
use Rattle.literal_loads.proofs.weighing.Weighing.all_absent.Given as goal

abbrev pub invariant-loop-at : goal.invariant-loop-at
invariant-loop-at l = All (IsAbsentRight (scale_of l.self)) l.placed → IsSum (scale_of l.self) (all_placed (drop l.at l.placed)) [] l.sum
