use Rattle.std.proofs.Common.{rules, ap, ◌∙◌}
use Rattle.cost_directives.specs.Weights.{type_in}
use Rattle.cost_directives.specs.WeightViews.{weights_data}
use Rattle.response_model.specs.Components.{part_of}
use Rattle.static_cost.proofs.TablePasses.{first_totals, next_totals, last_totals}
use Rattle.static_cost.proofs.totals.greatest_cost.Goals as goal

pub loop-at-init : goal.loop-at-init
loop-at-init c = first_totals (part_of c.args.part) c.args.of.now c.node_rows-rows.result.now c.new-by_depth.result c.node_rows-rows.ensures c.new-by_depth.ensures

pub loop-at-preserved : goal.loop-at-preserved
loop-at-preserved c = next_totals (part_of c.args.part) c.args.of.now c.node_rows-rows.result.now c.loop-at.at c.index-rows-at.result c.take.new.self c.node_rows-rows.ensures
    (search rules) (search rules) c.index-rows-at.is
    (c.take.ensures.taken _ c.loop-at.invariant)

pub returns : goal.returns
returns c = last_totals (part_of c.args.part) c.args.of.now c.loop-at.at c.loop-at.by_depth c.type_weight.result c.value_cost-alone.result c.max.result c.min.result
    (search rules) c.loop-at.invariant
    (c.type_weight.ensures ∙ ap (λ w. (type_in (weights_data w.now) c.root.result.number).weight) c.weights.ensures
    ∙ ap (λ root. (type_in (weights_data c.args.of.now.weights.now) root.number).weight) c.root.ensures)
    c.value_cost-alone.ensures c.max.ensures c.min.ensures
