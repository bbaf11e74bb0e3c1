use Rattle.std.proofs.Common.{◌≡◌, ◌++◌, drop, map}
use Rattle.input_values.specs.inputs.Definitions.{input_data}
use Rattle.cost_directives.specs.Weights.{input_weight_of}
use Rattle.cost_directives.specs.WeightViews.{input_weight}
use Rattle.cost_directives.proofs.rules.input_weights_of.Given as goal

-- Those so far, and then those of what is left.
abbrev pub invariant-loop-input : goal.invariant-loop-input
invariant-loop-input l = map input_weight l.made.items ++ map input_weight_of (map input_data (drop l.input-index l.inputs)) ≡ map input_weight_of (map input_data l.inputs)
