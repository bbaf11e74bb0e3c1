use Rattle.std.proofs.Common.{◌∙◌, sym, ap, map, option_map}
use Rattle.input_values.specs.values.Coerced.{coerced_tree, named_tree, trees_from, named_trees_from}
use Rattle.distinct_selections.proofs.HeldParts.{list_same, no_list, object_same, no_object}
use Rattle.distinct_selections.proofs.SideBySide.{one_differs, one_is_same, at_end, items_compared, item_compared, items_compare, fields_compared, field_compared, fields_compare, less, not_less}
use Rattle.distinct_selections.proofs.same_values.+same.Goals as goal
use Rattle.distinct_selections.proofs.same_values.+same.Goals.{same_items-then-items-test+else-at-others, same_items-else-items-test, same_fields-then-fields-test+else-at-others, same_fields-else-fields-test}

pub same_list-returns-in-Some : goal.same_list-returns-in-Some
same_list-returns-in-Some t c =
    c.same_items.ensures
    ∙ list_same (trees_from (map coerced_tree c.args.items.now)) (trees_from (map coerced_tree c.in-Some.others.now)) (coerced_tree c.args.value.now)
    (sym (ap (λ o. option_map (λ items. trees_from (map coerced_tree items.now)) o) c.in-Some.is) ∙ c.items_held.ensures)

pub same_list-returns-in-None : goal.same_list-returns-in-None
same_list-returns-in-None t c =
    no_list (trees_from (map coerced_tree c.args.items.now)) (coerced_tree c.args.value.now)
    (sym (ap (λ o. option_map (λ items. trees_from (map coerced_tree items.now)) o) c.in-None.is) ∙ c.items_held.ensures)

pub same_object-returns-in-Some : goal.same_object-returns-in-Some
same_object-returns-in-Some t c =
    c.same_fields.ensures
    ∙ object_same (named_trees_from (map named_tree c.args.fields.now)) (named_trees_from (map named_tree c.in-Some.others.now)) (coerced_tree c.args.value.now)
    (sym (ap (λ o. option_map (λ fields. named_trees_from (map named_tree fields.now)) o) c.in-Some.is) ∙ c.fields_held.ensures)

pub same_object-returns-in-None : goal.same_object-returns-in-None
same_object-returns-in-None t c =
    no_object (named_trees_from (map named_tree c.args.fields.now)) (coerced_tree c.args.value.now)
    (sym (ap (λ o. option_map (λ fields. named_trees_from (map named_tree fields.now)) o) c.in-None.is) ∙ c.fields_held.ensures)

pub same_items-returns-then-not-same_value : goal.same_items-returns-then-not-same_value
same_items-returns-then-not-same_value t c =
    one_differs items_compared item_compared items_compare c.args.items.now c.args.others.now c.items.at c.index-items-at.result c.index-others-at.result c.same_value.result _ c.items-test.true c.if-at-others.true c.index-items-at.is c.index-others-at.is c.items.invariant.2 c.same_value.ensures c.if-not-same_value.true

pub same_items-items-preserved : goal.same_items-items-preserved
same_items-items-preserved t c = (
  less c.items.at c.args.items.now c.items-test.true,
  less c.items.at c.args.others.now c.if-at-others.true,
  one_is_same items_compared item_compared items_compare c.args.items.now c.args.others.now c.items.at c.index-items-at.result c.index-others-at.result c.same_value.result _ c.items-test.true c.if-at-others.true c.index-items-at.is c.index-others-at.is c.items.invariant.2 c.same_value.ensures c.if-not-same_value.false,
)

pub same_items-returns : goal.same_items-returns
same_items-returns t c =
    at_end items_compared item_compared items_compare c.args.items.now c.args.others.now c.items.at c.items.invariant.0 c.items.invariant.1
    (λ a b. elim c.items-test.branch [ same_items-then-items-test+else-at-others w ↦ not_less w.if-at-others.false b | same_items-else-items-test w ↦ not_less w.items-test.false a ])
    ∙ c.items.invariant.2

pub same_fields-returns-then-not-same_field : goal.same_fields-returns-then-not-same_field
same_fields-returns-then-not-same_field t c =
    one_differs fields_compared field_compared fields_compare c.args.fields.now c.args.others.now c.fields.at c.index-fields-at.result c.index-others-at.result c.same_field.result _ c.fields-test.true c.if-at-others.true c.index-fields-at.is c.index-others-at.is c.fields.invariant.2 c.same_field.ensures c.if-not-same_field.true

pub same_fields-fields-preserved : goal.same_fields-fields-preserved
same_fields-fields-preserved t c = (
  less c.fields.at c.args.fields.now c.fields-test.true,
  less c.fields.at c.args.others.now c.if-at-others.true,
  one_is_same fields_compared field_compared fields_compare c.args.fields.now c.args.others.now c.fields.at c.index-fields-at.result c.index-others-at.result c.same_field.result _ c.fields-test.true c.if-at-others.true c.index-fields-at.is c.index-others-at.is c.fields.invariant.2 c.same_field.ensures c.if-not-same_field.false,
)

pub same_fields-returns : goal.same_fields-returns
same_fields-returns t c =
    at_end fields_compared field_compared fields_compare c.args.fields.now c.args.others.now c.fields.at c.fields.invariant.0 c.fields.invariant.1
    (λ a b. elim c.fields-test.branch [ same_fields-then-fields-test+else-at-others w ↦ not_less w.if-at-others.false b | same_fields-else-fields-test w ↦ not_less w.fields-test.false a ])
    ∙ c.fields.invariant.2
