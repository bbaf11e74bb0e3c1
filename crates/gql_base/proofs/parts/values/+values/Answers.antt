use Rattle.std.proofs.Common.{arith, sym, ap, ◌∙◌, map, Ok, subst}
use Rattle.std.proofs.lemmas.Result.{err_from_is_err_and}
use Rattle.gql_base.specs.ways.Sources.{ahead, Reads, Halts}
use Rattle.gql_base.specs.parts.Trees.{value_tree, named_value}
use Rattle.gql_base.proofs.WayLaws.Loops.{loop_ends, loop_halts, loop_goes_on}
use Rattle.gql_base.proofs.PartLaws.ValueSteps.{values_repeat, fields_repeat, value_is_list, value_is_object, value_is_simple, list_tree, object_tree}
use Rattle.gql_base.proofs.parts.values.+values.Goals as goal

pub items-returns-in_err-item-clause-read : goal.items-returns-in_err-item-clause-read
items-returns-in_err-item-clause-read t c =
    let p = err_from_is_err_and c.from_residual.result c.from_residual.ensures.1 in
    rw (p.1, p.2) (loop_halts (values_repeat c.args.constant c.args.levels) c.args.source.now c.in_err-item.field-0.0 (map value_tree c.items.items.items) _ _ c.items.invariant.whole (sym c.is_other.ensures ∙ c.items-test.true) c.in_err-item.ensures.read)

pub items-items-preserved : goal.items-items-preserved
items-items-preserved t c = record {
  whole = loop_goes_on value_tree (values_repeat c.args.constant c.args.levels) c.items.items.items c.push.new.self.items c.in_ok-item.item _ _ _ c.items.invariant.whole (sym c.is_other.ensures ∙ c.items-test.true) c.in_ok-item.ensures.read c.in_ok-push.ensures.items;
  onward = omega (arith, c.items.invariant.onward, c.in_ok-item.ensures.within.0);
}

pub items-returns-clause-read : goal.items-returns-clause-read
items-returns-clause-read t c = loop_ends (values_repeat c.args.constant c.args.levels) (map value_tree c.items.items.items) _ _ c.items.invariant.whole (sym c.is_other.ensures ∙ c.items-test.false)

pub fields-returns-in_err-field-clause-read : goal.fields-returns-in_err-field-clause-read
fields-returns-in_err-field-clause-read t c =
    let p = err_from_is_err_and c.from_residual.result c.from_residual.ensures.1 in
    rw (p.1, p.2) (loop_halts (fields_repeat c.args.constant c.args.levels) c.args.source.now c.in_err-field.field-0.0 (map named_value c.fields.fields.items) _ _ c.fields.invariant.whole (sym c.is_other.ensures ∙ c.fields-test.true) c.in_err-field.ensures.read)

pub fields-fields-preserved : goal.fields-fields-preserved
fields-fields-preserved t c = record {
  whole = loop_goes_on named_value (fields_repeat c.args.constant c.args.levels) c.fields.fields.items c.push.new.self.items c.in_ok-field.field _ _ _ c.fields.invariant.whole (sym c.is_other.ensures ∙ c.fields-test.true) c.in_ok-field.ensures.read c.in_ok-push.ensures.items;
  onward = omega (arith, c.fields.invariant.onward, c.in_ok-field.ensures.within.0);
}

pub fields-returns-clause-read : goal.fields-returns-clause-read
fields-returns-clause-read t c = loop_ends (fields_repeat c.args.constant c.args.levels) (map named_value c.fields.fields.items) _ _ c.fields.invariant.whole (sym c.is_other.ensures ∙ c.fields-test.false)

pub value-returns-then-is-clause-read : goal.value-returns-then-is-clause-read
value-returns-then-is-clause-read t c = value_is_list c.args.constant c.args.levels _ (sym c.is.ensures ∙ c.if-is.true) ∙ (c.in_ok-items.ensures.read ∙ ap (λ l. Ok (l, ahead c.args.source.now c.in_ok-items.end)) (sym (list_tree c.in_ok-items.items)))

pub value-returns-in_err-items-clause-read : goal.value-returns-in_err-items-clause-read
value-returns-in_err-items-clause-read t c =
    let p = err_from_is_err_and c.from_residual.result c.from_residual.ensures.1 in
    rw (p.1, p.2) (subst (Halts c.args.source.now c.in_err-items.field-0.0) (sym (value_is_list c.args.constant c.args.levels _ (sym c.is.ensures ∙ c.if-is.true))) c.in_err-items.ensures.read)

pub value-returns-then-is-2-clause-read : goal.value-returns-then-is-2-clause-read
value-returns-then-is-2-clause-read t c = value_is_object c.args.constant c.args.levels _ (sym c.is.ensures ∙ c.if-is.false) (sym c.is-2.ensures ∙ c.if-is-2.true) ∙ (c.in_ok-fields.ensures.read ∙ ap (λ l. Ok (l, ahead c.args.source.now c.in_ok-fields.end)) (sym (object_tree c.in_ok-fields.fields)))

pub value-returns-in_err-fields-clause-read : goal.value-returns-in_err-fields-clause-read
value-returns-in_err-fields-clause-read t c =
    let p = err_from_is_err_and c.from_residual-in_err-fields.result c.from_residual-in_err-fields.ensures.1 in
    rw (p.1, p.2) (subst (Halts c.args.source.now c.in_err-fields.field-0.0) (sym (value_is_object c.args.constant c.args.levels _ (sym c.is.ensures ∙ c.if-is.false) (sym c.is-2.ensures ∙ c.if-is-2.true))) c.in_err-fields.ensures.read)

pub value-returns-clause-read : goal.value-returns-clause-read
value-returns-clause-read t c =
    subst (Reads c.args.source.now (λ x. (value_tree x.0, x.1)) c.simple.result) (sym (value_is_simple c.args.constant c.args.levels _ (sym c.is.ensures ∙ c.if-is.false) (sym c.is-2.ensures ∙ c.if-is-2.false))) c.simple.ensures.read
