use Rattle.std.proofs.Common.{◌≡◌, ◌++◌, map, drop, All}
use Rattle.input_values.specs.inputs.Definitions.{input_data}
use Rattle.cost_directives.specs.WeightViews.{input_weight}
use Rattle.literal_loads.specs.Sums.{placed_input, placed_weight}
use Rattle.literal_loads.specs.KnownInputs.{scale_of, all_placed, IsAbsentRight}
use Rattle.literal_loads.proofs.weighing.Weighing.placed_inputs.Given as goal

abbrev pub invariant-loop-at : goal.invariant-loop-at
invariant-loop-at l = record {
  inputs : map placed_input (all_placed l.placed.items) ++ map input_data (drop l.at l.inputs) ≡ map input_data l.inputs;
  weights : map placed_weight (all_placed l.placed.items) ++ map input_weight (drop l.at l.weights) ≡ map input_weight l.weights;
  right : All (IsAbsentRight (scale_of l.self)) l.placed.items;
}
