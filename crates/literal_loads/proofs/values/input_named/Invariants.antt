use Rattle.std.proofs.Common.{◌≡◌, drop, map}
use Rattle.gql_base.specs.names.Names.{first_of_name}
use Rattle.cost_directives.specs.ArgumentCosts.{weighed_name}
use Rattle.cost_directives.specs.WeightViews.{input_weight}
use Rattle.literal_loads.proofs.values.input_named.Given as goal

-- What is left answers as the whole.
abbrev pub invariant-loop-input : goal.invariant-loop-input
invariant-loop-input l = first_of_name weighed_name (map input_weight (drop l.input-index l.inputs)) l.name ≡ first_of_name weighed_name (map input_weight l.inputs) l.name
