use Rattle.std.proofs.Common.{All, take}
use Rattle.cost_directives.specs.Weights.{objects_in}
use Rattle.cost_directives.specs.WeightViews.{input_weight, weights_data}
use Rattle.literal_loads.specs.Loads.{IsFree}
use Rattle.literal_loads.proofs.weighing.Weighing.are_free.Given as goal

abbrev pub invariant-loop-input : goal.invariant-loop-input
invariant-loop-input l = All (λ i. IsFree (objects_in (weights_data l.self.weights.now)) (input_weight i)) (take l.input-index l.inputs)
