use Rattle.std.proofs.Common.{rules, ap, ◌∙◌}
use Rattle.response_model.specs.Cost.{value_cost}
use Rattle.cost_directives.specs.Weights.{type_in}
use Rattle.cost_directives.specs.WeightViews.{weights_data}
use Rattle.response_model.specs.Components.{part_of}
use Rattle.static_cost.proofs.Depths.{node_step, type_step, cost_of_type}
use Rattle.static_cost.proofs.totals.ByDepth.take.Goals as goal

pub returns-then-row-clause-taken : goal.returns-then-row-clause-taken
returns-then-row-clause-taken c t holds = type_step (part_of c.args.part) c.args.of.now c.args.row.now t c.args.self.now
    c.greatest_below-each.result c.entry_cost.result c.values_cost.result c.sum_capped-own.result c.sum_capped-total.result c.value_cost-weight.result c.sum_capped-cost.result c.max.result
    c.if-row.true c.args.row.now.within (search rules) (search rules)
    (record {
      is_each = c.greatest_below-each.ensures;
      is_entry = c.entry_cost.ensures;
      is_values = c.values_cost.ensures;
      is_own = c.sum_capped-own.ensures;
      is_total = c.sum_capped-total.ensures;
    })
    (c.value_cost-weight.ensures ∙ ap (λ w. value_cost (part_of c.args.part) w) (c.type_weight.ensures ∙ ap (λ w. (type_in (weights_data w.now) c.args.row.now.on.number).weight) c.weights.ensures))
    c.sum_capped-cost.ensures c.max.ensures holds

pub returns-then-row-clause-cost : goal.returns-then-row-clause-cost
returns-then-row-clause-cost c t holds = cost_of_type (part_of c.args.part) c.args.of.now c.args.row.now t c.args.self.now
    c.greatest_below-each.result c.entry_cost.result c.values_cost.result c.sum_capped-own.result c.sum_capped-total.result c.value_cost-weight.result c.sum_capped-cost.result c.args.row.now.within
    (record {
      is_each = c.greatest_below-each.ensures;
      is_entry = c.entry_cost.ensures;
      is_values = c.values_cost.ensures;
      is_own = c.sum_capped-own.ensures;
      is_total = c.sum_capped-total.ensures;
    })
    (c.value_cost-weight.ensures ∙ ap (λ w. value_cost (part_of c.args.part) w) (c.type_weight.ensures ∙ ap (λ w. (type_in (weights_data w.now) c.args.row.now.on.number).weight) c.weights.ensures))
    c.sum_capped-cost.ensures holds

pub returns-else-row-clause-taken : goal.returns-else-row-clause-taken
returns-else-row-clause-taken c t holds = node_step (part_of c.args.part) c.args.of.now c.args.row.now t c.args.self.now
    c.greatest_below-each.result c.entry_cost.result c.values_cost.result c.sum_capped-own.result c.sum_capped-total.result
    c.if-row.false c.args.row.now.within (search rules) (search rules)
    (record {
      is_each = c.greatest_below-each.ensures;
      is_entry = c.entry_cost.ensures;
      is_values = c.values_cost.ensures;
      is_own = c.sum_capped-own.ensures;
      is_total = c.sum_capped-total.ensures;
    }) holds

pub returns-else-row-clause-cost : goal.returns-else-row-clause-cost
returns-else-row-clause-cost c t holds = cost_of_type (part_of c.args.part) c.args.of.now c.args.row.now t c.args.self.now
    c.greatest_below-each.result c.entry_cost.result c.values_cost.result c.sum_capped-own.result c.sum_capped-total.result c.value_cost-weight.result c.sum_capped-cost.result c.args.row.now.within
    (record {
      is_each = c.greatest_below-each.ensures;
      is_entry = c.entry_cost.ensures;
      is_values = c.values_cost.ensures;
      is_own = c.sum_capped-own.ensures;
      is_total = c.sum_capped-total.ensures;
    })
    (c.value_cost-weight.ensures ∙ ap (λ w. value_cost (part_of c.args.part) w) (c.type_weight.ensures ∙ ap (λ w. (type_in (weights_data w.now) c.args.row.now.on.number).weight) c.weights.ensures))
    c.sum_capped-cost.ensures holds
