use Rattle.std.proofs.Common.{◌<◌, length, refl, sym, ◌∙◌, arith}
use Rattle.std.proofs.lemmas.Bool.{eqb-true, eqb-false, iff_false}
use Rattle.cost_num.proofs.Fronts.{stops_at_once, stops_after_whole, stops_after_dot}
use Rattle.cost_num.proofs.weights.split.Goals as goal

pub returns-then-is_empty-clause-stops : goal.returns-then-is_empty-clause-stops
returns-then-is_empty-clause-stops c = stops_at_once c.args.text.now _ _ c.leading_digits.ensures.joined (eqb-true _ _ (sym c.is_empty.ensures ∙ c.if-is_empty.true)) c.leading_digits.ensures.ends

pub returns-then-first-ne46-clause-stops : goal.returns-then-first-ne46-clause-stops
returns-then-first-ne46-clause-stops c = stops_after_whole c.args.text.now _ _ _ _ _ c.leading_digits.ensures.joined c.in-Some.ensures.cases.0 refl c.leading_digits.ensures.digits c.leading_digits.ensures.ends c.if-first-ne46.true

pub returns-then-not-is_complete-clause-stops : goal.returns-then-not-is_complete-clause-stops
returns-then-not-is_complete-clause-stops c =
    let some : 0 < length c.leading_digits.result.0.now = omega (arith, eqb-false _ _ (sym c.is_empty.ensures ∙ c.if-is_empty.false)) in
    stops_after_dot c.args.text.now _ _ _ _ _ _ _ c.leading_digits.ensures.joined c.in-Some.ensures.cases.0 c.if-first-ne46.false c.leading_digits-2.ensures.joined refl some c.leading_digits.ensures.digits c.leading_digits-2.ensures.digits c.leading_digits-2.ensures.ends (iff_false c.is_complete.ensures c.if-not-is_complete.true)
