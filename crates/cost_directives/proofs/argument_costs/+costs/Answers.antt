use Rattle.std.proofs.Common.{arith, None, map, refl, ap, ◌∙◌}
use Rattle.cost_num.specs.Capped.{capped}
use Rattle.input_values.specs.inputs.Shapes.{shape_tree}
use Rattle.input_values.specs.values.Coerced.{coerced_tree, coerced_null, coerced_integer, coerced_float, coerced_string, coerced_boolean, coerced_enum, coerced_list, coerced_object}
use Rattle.input_values.proofs.CoercedTrees.{null_made, integer_made, float_made, string_made, boolean_made, enum_made, list_made, object_made}
use Rattle.cost_directives.specs.ArgumentCosts.{value_cost, list_cost, record_cost}
use Rattle.cost_directives.specs.WeightViews.{type_inputs, input_weight, maybe_input}
use Rattle.cost_directives.proofs.CostSteps.{items_in, fields_in, one_item, one_field, no_item_left, no_field_left, cost_is, field_cost_is}
use Rattle.cost_directives.proofs.argument_costs.+costs.Goals as goal

pub items_cost-items-preserved : goal.items_cost-items-preserved
items_cost-items-preserved t c =
    let whole = one_item (map type_inputs c.args.types.now) (shape_tree c.args.item.now) c.args.own c.args.items.now c.items.value-index c.value-item.result c.items.sum c.value_cost.result c.sum_capped-sum.result _
    c.items-test.true c.value-item.is c.items.invariant.whole c.value_cost.ensures c.sum_capped-sum.ensures in
    record { whole = whole; small = omega (arith, c.sum_capped-sum.ensures) }

pub items_cost-returns : goal.items_cost-returns
items_cost-returns t c = no_item_left (map type_inputs c.args.types.now) (shape_tree c.args.item.now) c.args.own c.args.items.now c.items.value-index c.items.sum _ c.items-test.false c.items.invariant.whole c.items.invariant.small

pub fields_cost-fields-preserved : goal.fields_cost-fields-preserved
fields_cost-fields-preserved t c =
    let whole = one_field (map type_inputs c.args.types.now) (map input_weight c.args.inputs.now.items.items) c.args.fields.now c.fields.field-index c.field-item.result c.fields.sum c.field_cost.result c.sum_capped-sum.result _
    c.fields-test.true c.field-item.is c.fields.invariant.whole c.field_cost.ensures c.sum_capped-sum.ensures in
    record { whole = whole; small = omega (arith, c.sum_capped-sum.ensures) }

pub fields_cost-returns : goal.fields_cost-returns
fields_cost-returns t c = no_field_left (map type_inputs c.args.types.now) (map input_weight c.args.inputs.now.items.items) c.args.fields.now c.fields.field-index c.fields.sum _ c.fields-test.false c.fields.invariant.whole c.fields.invariant.small

pub field_cost-returns-in-Some : goal.field_cost-returns-in-Some
field_cost-returns-in-Some t c =
    c.value_cost.ensures ∙ ap capped (field_cost_is (map type_inputs c.args.types.now) (map input_weight c.args.inputs.now.items.items) c.args.field.now c.as_str.result.now (maybe_input c.input_named.result) _ (ap maybe_input c.in-Some.is) c.as_str.ensures c.input_named.ensures)

pub field_cost-returns-in-None : goal.field_cost-returns-in-None
field_cost-returns-in-None t c =
    ap capped (field_cost_is (map type_inputs c.args.types.now) (map input_weight c.args.inputs.now.items.items) c.args.field.now c.as_str.result.now (maybe_input c.input_named.result) None (ap maybe_input c.in-None.is) c.as_str.ensures c.input_named.ensures)

pub value_cost-returns-in-Null : goal.value_cost-returns-in-Null
unfolding value_cost
value_cost-returns-in-Null t c = cost_is (map type_inputs c.args.types.now) (shape_tree c.args.shape.now) c.args.own c.args.value.now coerced_null 0 (ap coerced_tree c.in-Null.is ∙ null_made) refl

pub value_cost-returns-in-Int : goal.value_cost-returns-in-Int
unfolding value_cost
value_cost-returns-in-Int t c = cost_is (map type_inputs c.args.types.now) (shape_tree c.args.shape.now) c.args.own c.args.value.now (coerced_integer c.in-Int.field-0) c.leaf_cost.result (ap coerced_tree c.in-Int.is ∙ integer_made c.in-Int.field-0) c.leaf_cost.ensures

pub value_cost-returns-in-Float : goal.value_cost-returns-in-Float
unfolding value_cost
value_cost-returns-in-Float t c = cost_is (map type_inputs c.args.types.now) (shape_tree c.args.shape.now) c.args.own c.args.value.now (coerced_float c.in-Float.field-0) c.leaf_cost-in-Float.result (ap coerced_tree c.in-Float.is ∙ float_made c.in-Float.field-0) c.leaf_cost-in-Float.ensures

pub value_cost-returns-in-Str : goal.value_cost-returns-in-Str
unfolding value_cost
value_cost-returns-in-Str t c = cost_is (map type_inputs c.args.types.now) (shape_tree c.args.shape.now) c.args.own c.args.value.now (coerced_string c.in-Str.field-0) c.leaf_cost-in-Str.result (ap coerced_tree c.in-Str.is ∙ string_made c.in-Str.field-0) c.leaf_cost-in-Str.ensures

pub value_cost-returns-in-Bool : goal.value_cost-returns-in-Bool
unfolding value_cost
value_cost-returns-in-Bool t c = cost_is (map type_inputs c.args.types.now) (shape_tree c.args.shape.now) c.args.own c.args.value.now (coerced_boolean c.in-Bool.field-0) c.leaf_cost-in-Bool.result (ap coerced_tree c.in-Bool.is ∙ boolean_made c.in-Bool.field-0) c.leaf_cost-in-Bool.ensures

pub value_cost-returns-in-EnumName : goal.value_cost-returns-in-EnumName
unfolding value_cost
value_cost-returns-in-EnumName t c = cost_is (map type_inputs c.args.types.now) (shape_tree c.args.shape.now) c.args.own c.args.value.now (coerced_enum c.in-EnumName.field-0) c.leaf_cost-in-EnumName.result (ap coerced_tree c.in-EnumName.is ∙ enum_made c.in-EnumName.field-0) c.leaf_cost-in-EnumName.ensures

pub value_cost-returns-in-List : goal.value_cost-returns-in-List
unfolding value_cost
value_cost-returns-in-List t c = cost_is (map type_inputs c.args.types.now) (shape_tree c.args.shape.now) c.args.own c.args.value.now (coerced_list (items_in c.in-List.items.items)) c.list_cost.result (ap coerced_tree c.in-List.is ∙ list_made c.in-List.items)
    (c.list_cost.ensures ∙ ap (λ l. capped (list_cost (map type_inputs c.args.types.now) (shape_tree c.args.shape.now) c.args.own (items_in l))) c.as_slice.ensures.value)

pub value_cost-returns-in-Object : goal.value_cost-returns-in-Object
unfolding value_cost
value_cost-returns-in-Object t c = cost_is (map type_inputs c.args.types.now) (shape_tree c.args.shape.now) c.args.own c.args.value.now (coerced_object (fields_in c.in-Object.fields.items)) c.record_cost.result (ap coerced_tree c.in-Object.is ∙ object_made c.in-Object.fields)
    (c.record_cost.ensures ∙ ap (λ l. capped (record_cost (map type_inputs c.args.types.now) (shape_tree c.args.shape.now) c.args.own (fields_in l))) c.as_slice-in-Object.ensures.value)
