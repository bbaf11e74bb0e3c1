use Rattle.std.proofs.Common.{rules, get_or, ap, ◌∙◌}
use Rattle.std.proofs.lemmas.List.{drop_all}
use Rattle.input_values.specs.declared.inputs.shape.TypeId.{TypeId}
use Rattle.response_model.specs.Cost.{value_cost}
use Rattle.cost_directives.specs.Weights.{type_in}
use Rattle.cost_directives.specs.WeightViews.{weights_data}
use Rattle.plan_table.specs.Tables.{setting_in}
use Rattle.response_model.specs.Components.{part_of}
use Rattle.static_cost.proofs.Picks.{first_found, first_behind, none_attaining}
use Rattle.static_cost.proofs.choices.first_attaining.Goals as goal

pub returns-then-attains_most : goal.returns-then-attains_most
returns-then-attains_most c =
    let on : TypeId = get_or c.args.possible.now c.loop-on.on-index record { number = 0 } in
    first_found (part_of c.args.part) (setting_in c.args.of.now) c.args.most c.args.greatest c.args.pick c.loop-on.on-index c.value_cost-cost.result c.args.possible.now on
    c.loop-on-test.true (search rules)
    (c.value_cost-cost.ensures ∙ ap (λ w. value_cost (part_of c.args.part) w) (c.type_weight.ensures ∙ ap (λ w. (type_in (weights_data w.now) on.number).weight) c.weights.ensures))
    (search rules) ∙ c.loop-on.invariant

pub loop-on-preserved : goal.loop-on-preserved
loop-on-preserved c =
    let on : TypeId = get_or c.args.possible.now c.loop-on.on-index record { number = 0 } in
    first_behind (part_of c.args.part) (setting_in c.args.of.now) c.args.most c.args.greatest c.args.pick c.loop-on.on-index c.value_cost-cost.result c.args.possible.now on
    c.loop-on-test.true (search rules)
    (c.value_cost-cost.ensures ∙ ap (λ w. value_cost (part_of c.args.part) w) (c.type_weight.ensures ∙ ap (λ w. (type_in (weights_data w.now) on.number).weight) c.weights.ensures))
    (search rules) ∙ c.loop-on.invariant

pub returns : goal.returns
returns c = none_attaining (part_of c.args.part) (setting_in c.args.of.now) c.args.most c.args.greatest c.args.pick c.loop-on.on-index c.args.possible.now (drop_all c.loop-on.on-index c.args.possible.now (search rules)) ∙ c.loop-on.invariant
