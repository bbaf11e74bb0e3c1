use Rattle.std.proofs.Common.{◌≤◌, refl, sym, ◌∙◌, subst}
use Rattle.std.proofs.lemmas.Slice.Eq.{bytes_eq-Decides}
use Rattle.input_values.specs.values.Coerced.{coerced_tree, named_tree}
use Rattle.literal_loads.proofs.SameValues.{one_more_same, lists_are_same, objects_are_same, fields_are_same}
use Rattle.literal_loads.proofs.same_values.+same.Goals as goal

pub same_value-returns-in-List-opened : goal.same_value-returns-in-List-opened
same_value-returns-in-List-opened t c = λ same.
    lists_are_same c.args.value.now c.args.other.now c.opened.result.now c.in-List.items c.in-List-opened.others c.as_slice.result.now c.as_slice-in-List-opened.result.now c.in-List.is c.in-List-opened.is c.opened.ensures c.as_slice.ensures.value c.as_slice-in-List-opened.ensures.value (c.same_items.ensures same)

pub same_value-returns-in-Object-opened : goal.same_value-returns-in-Object-opened
same_value-returns-in-Object-opened t c = λ same.
    objects_are_same c.args.value.now c.args.other.now c.opened-in-Object.result.now c.in-Object.fields c.in-Object-opened.others c.as_slice-in-Object-opened.result.now c.as_slice-in-Object-opened-2.result.now c.in-Object.is c.in-Object-opened.is c.opened-in-Object.ensures c.as_slice-in-Object-opened.ensures.value c.as_slice-in-Object-opened-2.ensures.value (c.same_fields.ensures same)

pub same_items-items-preserved : goal.same_items-items-preserved
same_items-items-preserved t c = record {
  long = c.items.invariant.long;
  same = one_more_same coerced_tree c.args.items.now c.args.others.now c.items.at c.index-items-at.result c.index-others-at.result c.items-test.true c.items.auto.at (subst (λ n. c.items.at ≤ n) c.items.invariant.long c.items.auto.at) c.index-items-at.is c.index-others-at.is (c.if-not-same_value.ensures refl) c.items.invariant.same;
}

pub same_fields-fields-preserved : goal.same_fields-fields-preserved
same_fields-fields-preserved t c = record {
  long = c.fields.invariant.long;
  same = one_more_same named_tree c.args.fields.now c.args.others.now c.fields.at c.index-fields-at.result c.index-others-at.result c.fields-test.true c.fields.auto.at (subst (λ n. c.fields.at ≤ n) c.fields.invariant.long c.fields.auto.at) c.index-fields-at.is c.index-others-at.is (c.if-not-same_field.ensures refl) c.fields.invariant.same;
}

pub same_field-returns-then-eq : goal.same_field-returns-then-eq
same_field-returns-then-eq t c = λ same.
    let name = (bytes_eq-Decides c.as_str.result.now c.as_str-2.result.now).0 (sym c.if-eq.ensures) in
    fields_are_same c.args.field.now c.args.other.now (sym c.as_str.ensures ∙ (name ∙ c.as_str-2.ensures)) (c.same_value.ensures same)
