use Rattle.std.proofs.Common.{◌∙◌, refl, sym, ap, subst}
use Rattle.std.specs.Prelude.{option_map, option_copied}
use Rattle.std.proofs.lemmas.Slice.Eq.{bytes_eq-Decides}
use Rattle.schema_model.specs.Numbers.{type_number}
use Rattle.plan_model.specs.Repeats.{Holds}
use Rattle.collected_fields.specs.Steps.{step_data, fields_of_steps}
use Rattle.std.proofs.Common.{map}
use Rattle.collected_fields.proofs.PrepareLaws.{same_leaves}
use Rattle.collected_fields.proofs.steps.Draft.repeats.Goals as goal

pub returns-then-is_leaf : goal.returns-then-is_leaf
returns-then-is_leaf c = λ is knows s T spread.
    let parent = option_map type_number c.args.self.now.parent in
    let k = knows.1 c.key_of.result.now c.in-Some.leaf.now (sym c.get.ensures.value ∙ ap option_copied c.in-Some.is) in
    subst (λ f. Holds (fields_of_steps s T spread 0 (map step_data c.args.self.now.steps.items)) f)
    (same_leaves parent c.in-Some.leaf.now.now c.args.field.now k.0 (c.if-is_leaf.ensures.0 refl) (k.1.0 ∙ c.key_of.ensures) ((bytes_eq-Decides c.in-Some.leaf.now.now.name.text c.args.field.now.name.text).0 (sym c.eq.ensures ∙ is)))
    (k.1.1 s T spread)
