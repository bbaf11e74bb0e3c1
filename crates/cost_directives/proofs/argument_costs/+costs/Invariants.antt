use Rattle.std.proofs.Common.{◌≡◌, ◌+◌, ◌≤◌, drop, map}
use Rattle.cost_num.specs.declared.TheConstants.{CAP}
use Rattle.cost_num.specs.Capped.{capped}
use Rattle.input_values.specs.inputs.Shapes.{shape_tree}
use Rattle.cost_directives.specs.ArgumentCosts.{items_cost, fields_cost}
use Rattle.cost_directives.specs.WeightViews.{type_inputs, input_weight}
use Rattle.cost_directives.proofs.CostSteps.{items_in, fields_in}
use Rattle.cost_directives.proofs.argument_costs.+costs.Given as goal

-- The sum so far and the cost of what is left are the whole cost.
abbrev pub invariant-items_cost-items : goal.invariant-items_cost-items
invariant-items_cost-items l = record {
  whole : capped (l.sum + items_cost (map type_inputs l.types) (shape_tree l.item) l.own (items_in (drop l.value-index l.items))) ≡ capped (items_cost (map type_inputs l.types) (shape_tree l.item) l.own (items_in l.items));
  small : l.sum ≤ CAP + 1;
}

abbrev pub invariant-fields_cost-fields : goal.invariant-fields_cost-fields
invariant-fields_cost-fields l = record {
  whole : capped (l.sum + fields_cost (map type_inputs l.types) (map input_weight l.inputs.items.items) (fields_in (drop l.field-index l.fields))) ≡ capped (fields_cost (map type_inputs l.types) (map input_weight l.inputs.items.items) (fields_in l.fields));
  small : l.sum ≤ CAP + 1;
}
