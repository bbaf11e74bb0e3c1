use Rattle.std.proofs.Common.{Some, sym, ap, ◌∙◌, option_map}
use Rattle.input_values.specs.values.Coerced.{coerced_tree}
use Rattle.plan_model.proofs.SameValues.{value_equal}
use Rattle.distinct_selections.proofs.stand_ins.have_same.Goals as goal

pub returns-in-Some-other : goal.returns-in-Some-other
returns-in-Some-other c = λ h. ap (λ o. option_map (λ v. coerced_tree v.now) o) c.in-Some.is
    ∙ (ap Some (value_equal (coerced_tree c.in-Some.value.now) (coerced_tree c.in-Some-other.other.now) (sym c.same_value.ensures ∙ h)) ∙ sym (ap (λ o. option_map (λ v. coerced_tree v.now) o) c.in-Some-other.is))
