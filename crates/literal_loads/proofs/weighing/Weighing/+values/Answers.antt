use Rattle.std.proofs.Common.{map, Some, refl, sym, ap, ◌∙◌}
use Rattle.std.proofs.lemmas.Option.{IfSome_then}
use Rattle.input_values.specs.inputs.Shapes.{shape_tree, level_tree}
use Rattle.input_values.specs.values.Coerced.{coerced_object, coerced_tree, named_tree, named_trees_from}
use Rattle.input_values.proofs.CoercedTrees.{null_made, integer_made, float_made, string_made, boolean_made, enum_made, list_made, object_made}
use Rattle.literal_loads.specs.KnownInputs.{scale_of}
use Rattle.literal_loads.proofs.ValuesTogether.{none_summed, one_summed, all_summed, list_load, plain_load, null_load, list_leaf}
use Rattle.cost_directives.specs.WeightViews.{input_weight, weighed_inputs}
use Rattle.cost_directives.specs.ArgumentCosts.{value_cost}
use Rattle.cost_directives.specs.Weights.{objects_in}
use Rattle.literal_loads.specs.declared.load.Sum.{Sum}
use Rattle.literal_loads.proofs.ObjectsTogether.{leaf_object, object_there, object_together, inside_there, none_inside, field_found, field_unknown, no_field_summed, one_field_summed, all_fields_summed}
use Rattle.literal_loads.proofs.weighing.Weighing.+values.Goals as goal

pub value_load-returns-in_ok-items_together-in-ListOf : goal.value_load-returns-in_ok-items_together-in-ListOf
value_load-returns-in_ok-items_together-in-ListOf t c =
    let shaped = sym c.shape_level.ensures ∙ ap level_tree c.in-ListOf.is in
    IfSome_then c.list_of.result c.list_of.ensures
    (λ list round. list_load (scale_of c.args.self.now) (shape_tree c.in-ListOf.item.now) c.as_slice.result.now (shape_tree c.args.shape.now) _ c.args.value.now c.in-List.items c.in_ok-items_together-in-ListOf.field-0 list shaped c.in-List.is c.as_slice.ensures.value c.in_ok-items_together-in-ListOf.ensures round)

pub value_load-returns-in-Named : goal.value_load-returns-in-Named
value_load-returns-in-Named t c =
    let shaped = sym c.shape_level.ensures ∙ ap level_tree c.in-Named.is in
    IfSome_then c.leaf_value.result c.leaf_value.ensures
    (λ leaf counted. list_leaf (scale_of c.args.self.now) (shape_tree c.args.shape.now) c.in-Named.of.number c.in-Named.nullable (coerced_tree c.args.value.now) _ leaf shaped (ap coerced_tree c.in-List.is ∙ list_made c.in-List.items) counted)

pub value_load-returns-then-are_free : goal.value_load-returns-then-are_free
value_load-returns-then-are_free t c =
    let e = scale_of c.args.self.now in
    let s = shape_tree c.args.shape.now in
    let v = coerced_tree c.args.value.now in
    let fields = named_trees_from (map named_tree c.in-Object.fields.items) in
    let is = ap coerced_tree c.in-Object.is ∙ object_made c.in-Object.fields in
    let inputs = map input_weight c.in-Some.inputs.now in
    let there = sym c.inputs_there.ensures ∙ ap weighed_inputs c.in-Some.is in
    IfSome_then c.free_object.result c.free_object.ensures (λ load object. object_there e s v fields is inputs there 0 load object (none_inside (objects_in e.weights) c.in-Some.inputs.now fields (c.if-are_free.ensures refl)))

pub value_load-returns-then-inputs-gt-FEW : goal.value_load-returns-then-inputs-gt-FEW
value_load-returns-then-inputs-gt-FEW t c =
    let e = scale_of c.args.self.now in
    let s = shape_tree c.args.shape.now in
    let v = coerced_tree c.args.value.now in
    let fields = named_trees_from (map named_tree c.in-Object.fields.items) in
    let is = ap coerced_tree c.in-Object.is ∙ object_made c.in-Object.fields in
    let inputs = map input_weight c.in-Some.inputs.now in
    let there = sym c.inputs_there.ensures ∙ ap weighed_inputs c.in-Some.is in
    IfSome_then c.great_object.result c.great_object.ensures (λ load object. object_there e s v fields is inputs there (value_cost (objects_in e.weights) s (Some 0) v) load object (inside_there e s v fields is inputs there (value_cost (objects_in e.weights) s (Some 0) v) refl))

pub value_load-returns-in_ok-fields_together-in-Some : goal.value_load-returns-in_ok-fields_together-in-Some
value_load-returns-in_ok-fields_together-in-Some t c =
    let e = scale_of c.args.self.now in
    let s = shape_tree c.args.shape.now in
    let v = coerced_tree c.args.value.now in
    let seen = c.as_slice-in-Some.result.now in
    let fields = named_trees_from (map named_tree seen) in
    let is = ap coerced_tree c.in-Object.is ∙ (object_made c.in-Object.fields ∙ ap (λ l. coerced_object (named_trees_from (map named_tree l))) (sym c.as_slice-in-Some.ensures.value)) in
    let inputs = map input_weight c.in-Some.inputs.now in
    let there = sym c.inputs_there.ensures ∙ ap weighed_inputs c.in-Some.is in
    IfSome_then c.object_of.result c.object_of.ensures (λ load object. object_together e s v fields is inputs there c.in_ok-fields_together-in-Some.field-0 load c.in_ok-fields_together-in-Some.ensures object)

pub value_load-returns-in-None : goal.value_load-returns-in-None
value_load-returns-in-None t c =
    let e = scale_of c.args.self.now in
    let s = shape_tree c.args.shape.now in
    let v = coerced_tree c.args.value.now in
    let fields = named_trees_from (map named_tree c.in-Object.fields.items) in
    let is = ap coerced_tree c.in-Object.is ∙ object_made c.in-Object.fields in
    IfSome_then c.leaf_value-in-None.result c.leaf_value-in-None.ensures (λ leaf counted. leaf_object e s v fields is leaf counted (sym c.inputs_there.ensures ∙ ap weighed_inputs c.in-None.is))

pub value_load-returns-in-Null : goal.value_load-returns-in-Null
value_load-returns-in-Null t c = null_load (scale_of c.args.self.now) (shape_tree c.args.shape.now) (coerced_tree c.args.value.now) _ (ap coerced_tree c.in-Null.is ∙ null_made) refl refl refl refl

pub value_load-returns-in-Int : goal.value_load-returns-in-Int
value_load-returns-in-Int t c = plain_load (scale_of c.args.self.now) (shape_tree c.args.shape.now) (coerced_tree c.args.value.now) _ c.leaf_of-leaf.result (ap coerced_tree c.in-Int.is ∙ integer_made _) tt c.leaf_of-leaf.ensures

pub value_load-returns-in-Float : goal.value_load-returns-in-Float
value_load-returns-in-Float t c = plain_load (scale_of c.args.self.now) (shape_tree c.args.shape.now) (coerced_tree c.args.value.now) _ c.leaf_of-leaf.result (ap coerced_tree c.in-Float.is ∙ float_made _) tt c.leaf_of-leaf.ensures

pub value_load-returns-in-Str : goal.value_load-returns-in-Str
value_load-returns-in-Str t c = plain_load (scale_of c.args.self.now) (shape_tree c.args.shape.now) (coerced_tree c.args.value.now) _ c.leaf_of-leaf.result (ap coerced_tree c.in-Str.is ∙ string_made _) tt c.leaf_of-leaf.ensures

pub value_load-returns-in-Bool : goal.value_load-returns-in-Bool
value_load-returns-in-Bool t c = plain_load (scale_of c.args.self.now) (shape_tree c.args.shape.now) (coerced_tree c.args.value.now) _ c.leaf_of-leaf.result (ap coerced_tree c.in-Bool.is ∙ boolean_made _) tt c.leaf_of-leaf.ensures

pub value_load-returns-in-EnumName : goal.value_load-returns-in-EnumName
value_load-returns-in-EnumName t c = plain_load (scale_of c.args.self.now) (shape_tree c.args.shape.now) (coerced_tree c.args.value.now) _ c.leaf_of-leaf.result (ap coerced_tree c.in-EnumName.is ∙ enum_made _) tt c.leaf_of-leaf.ensures

pub items_together-items-init : goal.items_together-items-init
items_together-items-init t c = none_summed (scale_of c.args.self.now) (shape_tree c.args.item.now) c.args.items.now _ refl refl refl refl

pub items_together-items-preserved : goal.items_together-items-preserved
items_together-items-preserved t c =
    one_summed (scale_of c.args.self.now) (shape_tree c.args.item.now) c.args.items.now c.items.value-index c.value-item.result c.items.sum c.in_ok-load.load c.in_ok-sum.sum c.items-test.true c.value-item.is c.items.invariant c.in_ok-load.ensures c.in_ok-sum.ensures

pub items_together-returns : goal.items_together-returns
items_together-returns t c = all_summed (scale_of c.args.self.now) (shape_tree c.args.item.now) c.args.items.now c.items.value-index c.items.sum c.items-test.false c.items.invariant

pub fields_together-fields-init : goal.fields_together-fields-init
fields_together-fields-init t c = no_field_summed (scale_of c.args.self.now) (map input_weight c.args.inputs.now) c.args.fields.now _ refl refl refl

pub fields_together-fields-preserved : goal.fields_together-fields-preserved
fields_together-fields-preserved t c =
    one_field_summed (scale_of c.args.self.now) (map input_weight c.args.inputs.now) c.args.fields.now c.fields.field-index c.field-item.result c.fields.sum c.in_ok-one.one c.in_ok-sum.sum c.fields-test.true c.field-item.is c.fields.invariant c.in_ok-one.ensures c.in_ok-sum.ensures

pub fields_together-returns : goal.fields_together-returns
fields_together-returns t c = all_fields_summed (scale_of c.args.self.now) (map input_weight c.args.inputs.now) c.args.fields.now c.fields.field-index c.fields.sum c.fields-test.false c.fields.invariant

pub field_sum-returns-in_ok-cost-in-Some : goal.field_sum-returns-in_ok-cost-in-Some
field_sum-returns-in_ok-cost-in-Some t c =
    let sum : Sum = record { refused = 0; nodes = c.in_ok-load-in-Some.load.nodes; cost = c.in_ok-cost-in-Some.cost } in
    field_found (scale_of c.args.self.now) (map input_weight c.args.inputs.now) c.args.field.now sum refl c.input_named.result c.in-Some.input c.as_str.result.now c.in_ok-load-in-Some.load
    c.input_named.ensures c.in-Some.is c.as_str.ensures c.in_ok-load-in-Some.ensures refl c.in_ok-cost-in-Some.ensures

pub field_sum-returns-in_ok-nodes-in-None : goal.field_sum-returns-in_ok-nodes-in-None
field_sum-returns-in_ok-nodes-in-None t c =
    let sum : Sum = record { refused = 0; nodes = c.in_ok-nodes-in-None.nodes; cost = 0 } in
    field_unknown (scale_of c.args.self.now) (map input_weight c.args.inputs.now) c.args.field.now sum refl c.input_named.result c.as_str.result.now c.input_named.ensures c.in-None.is c.as_str.ensures c.in_ok-nodes-in-None.ensures refl
