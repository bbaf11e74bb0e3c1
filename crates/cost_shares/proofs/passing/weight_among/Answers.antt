use Rattle.std.proofs.Common.{rules, get_or, ap, ◌∙◌}
use Rattle.std.proofs.lemmas.List.{drop_all}
use Rattle.input_values.specs.declared.inputs.shape.TypeId.{TypeId}
use Rattle.cost_directives.specs.Weights.{type_in}
use Rattle.cost_directives.specs.WeightViews.{weights_data}
use Rattle.plan_table.specs.Tables.{setting_in}
use Rattle.cost_shares.proofs.FoundShares.{among_here, among_behind, none_among}
use Rattle.cost_shares.proofs.passing.weight_among.Goals as goal

pub returns-then-on-number : goal.returns-then-on-number
returns-then-on-number c =
    let on : TypeId = get_or c.args.possible.now c.loop-on.on-index record { number = 0 } in
    among_here (setting_in c.args.of.now) c.args.number c.loop-on.on-index c.type_weight.result c.args.possible.now on
    c.loop-on-test.true (search rules) c.if-on-number.true
    (c.type_weight.ensures ∙ ap (λ w. (type_in (weights_data w.now) on.number).weight) c.weights.ensures)
    ∙ c.loop-on.invariant

pub loop-on-preserved : goal.loop-on-preserved
loop-on-preserved c =
    let on : TypeId = get_or c.args.possible.now c.loop-on.on-index record { number = 0 } in
    among_behind (setting_in c.args.of.now) c.args.number c.loop-on.on-index c.args.possible.now on c.loop-on-test.true (search rules) c.if-on-number.false
    ∙ c.loop-on.invariant

pub returns : goal.returns
returns c = none_among (setting_in c.args.of.now) c.args.number c.loop-on.on-index c.args.possible.now (drop_all c.loop-on.on-index c.args.possible.now (search rules)) ∙ c.loop-on.invariant
