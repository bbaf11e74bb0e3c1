use Rattle.std.proofs.Common.{◌≡◌, ◌+◌, ◌≤◌, drop, map}
use Rattle.cost_num.specs.declared.TheConstants.{CAP}
use Rattle.cost_num.specs.Capped.{capped}
use Rattle.schema_model.specs.Arguments.{arg_data}
use Rattle.cost_directives.specs.ArgumentCosts.{arguments_cost}
use Rattle.cost_directives.specs.WeightViews.{type_inputs, input_weight}
use Rattle.cost_directives.proofs.argument_costs.arguments_cost.Given as goal

-- The sum so far and the cost of what is left are the whole cost.
abbrev pub invariant-loop-at : goal.invariant-loop-at
invariant-loop-at l = record {
  whole : capped (l.sum + arguments_cost (map type_inputs l.types) (map input_weight (drop l.at l.inputs)) (map arg_data (drop l.at l.args))) ≡ capped (arguments_cost (map type_inputs l.types) (map input_weight l.inputs) (map arg_data l.args));
  small : l.sum ≤ CAP + 1;
}
