use Rattle.std.proofs.Common.{map, nat_eq, List, sym, ap, ◌∙◌, subst}
use Rattle.std.specs.List.{list_any}
use Rattle.input_values.specs.declared.inputs.shape.TypeId.{TypeId}
use Rattle.schema_model.specs.Numbers.{type_number}
use Rattle.collected_fields.specs.Kinds.{AddsCondition}
use Rattle.collected_fields.proofs.KindLaws.{added_last, added_before}
use Rattle.collected_fields.proofs.kinds.add.Goals as goal

pub returns-then-is_among : goal.returns-then-is_among
returns-then-is_among c = added_before c.args.conditions.now.items c.args.on (ap (λ (ts : List TypeId). list_any (nat_eq c.args.on.number) (map type_number ts)) (sym c.as_slice.ensures.value) ∙ (sym c.is_among.ensures ∙ c.if-is_among.true))

pub returns : goal.returns
returns c = subst (λ (ts : List TypeId). AddsCondition c.args.conditions.now.items ts c.args.on.number) (sym c.in_ok-push.ensures.items) (added_last c.args.conditions.now.items c.args.on)
