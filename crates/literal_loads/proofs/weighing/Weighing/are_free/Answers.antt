use Rattle.std.proofs.Common.{All, refl, subst}
use Rattle.std.proofs.lemmas.List.{take_all}
use Rattle.std.proofs.lemmas.List.Elements.{All-more}
use Rattle.cost_directives.specs.Weights.{objects_in}
use Rattle.cost_directives.specs.WeightViews.{input_weight, weights_data}
use Rattle.cost_directives.specs.declared.entries.InputWeight.{InputWeight}
use Rattle.literal_loads.specs.Loads.{IsFree}
use Rattle.literal_loads.proofs.weighing.Weighing.are_free.Goals as goal

pub loop-input-preserved : goal.loop-input-preserved
loop-input-preserved c =
    let P : InputWeight → Type 0 = λ i. IsFree (objects_in (weights_data c.args.self.now.weights.now)) (input_weight i) in
    All-more P c.args.inputs.now c.loop-input.input-index c.input-item.result c.loop-input-test.true c.loop-input.invariant (subst P c.input-item.is (c.if-not-is_free.ensures refl))

pub returns : goal.returns
returns c = λ same.
    let P : InputWeight → Type 0 = λ i. IsFree (objects_in (weights_data c.args.self.now.weights.now)) (input_weight i) in
    subst (All P) (take_all c.loop-input.input-index c.args.inputs.now c.loop-input-test.false) c.loop-input.invariant
