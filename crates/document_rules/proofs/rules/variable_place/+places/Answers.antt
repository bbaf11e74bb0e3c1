use Rattle.std.proofs.Common.{sym, ap, ◌∙◌, map}
use Rattle.gql_base.specs.parts.Values.{values_from, fields_from}
use Rattle.gql_base.specs.parts.Trees.{value_tree, named_value}
use Rattle.gql_base.proofs.PartLaws.ValueSteps.{variable_tree, integer_tree, float_tree, string_tree, boolean_tree, null_tree, enum_tree, list_tree, object_tree}
use Rattle.document_rules.specs.Views.{declared_tree}
use Rattle.document_rules.proofs.Lists.{found_here, none_here}
use Rattle.input_values.specs.inputs.Shapes.{shape_tree}
use Rattle.input_values.specs.inputs.Definitions.{input_data}
use Rattle.schema_model.specs.SchemaData.{input_field_named}
use Rattle.schema_model.specs.Entries.{maybe_input}
use Rattle.document_rules.specs.Views.{input_in}
use Rattle.schema_model.specs.SchemaViews.{schema_data}
use Rattle.document_rules.specs.Rules.{misplaced}
use Rattle.document_rules.proofs.ValueSteps.{is_use, uses_of_list, uses_of_object, uses_of_leaf, use_items_next, use_items_end, use_fields_next, use_fields_end, no_use_of_integer, no_use_of_float, no_use_of_string, no_use_of_boolean, no_use_of_null, no_use_of_enum}
use Rattle.std.specs.Prelude.{Some, None}
use Rattle.input_values.specs.values.Coerced.{coerced_tree}
use Rattle.schema_rules.specs.First.{first_of}
use Rattle.document_rules.specs.VariablePlaces.{uses_in}
use Rattle.document_rules.proofs.ValueSteps.{defaults_seen, in_input}
use Rattle.document_rules.proofs.rules.variable_place.+places.Goals as goal

pub in_value-returns-in-Int : goal.in_value-returns-in-Int
in_value-returns-in-Int t c = uses_of_leaf (schema_data c.args.rule.now.schema.now) (misplaced (schema_data c.args.rule.now.schema.now) (map declared_tree c.args.rule.now.variables.now.items.items)) (shape_tree c.args.place.now) c.args.has_default (value_tree c.args.value.now) _ (ap value_tree c.in-Int.is ∙ integer_tree c.in-Int._number) (no_use_of_integer (schema_data c.args.rule.now.schema.now) (shape_tree c.args.place.now) c.args.has_default c.in-Int._number)

pub in_value-returns-in-Float : goal.in_value-returns-in-Float
in_value-returns-in-Float t c = uses_of_leaf (schema_data c.args.rule.now.schema.now) (misplaced (schema_data c.args.rule.now.schema.now) (map declared_tree c.args.rule.now.variables.now.items.items)) (shape_tree c.args.place.now) c.args.has_default (value_tree c.args.value.now) _ (ap value_tree c.in-Float.is ∙ float_tree c.in-Float._text) (no_use_of_float (schema_data c.args.rule.now.schema.now) (shape_tree c.args.place.now) c.args.has_default c.in-Float._text)

pub in_value-returns-in-Str : goal.in_value-returns-in-Str
in_value-returns-in-Str t c = uses_of_leaf (schema_data c.args.rule.now.schema.now) (misplaced (schema_data c.args.rule.now.schema.now) (map declared_tree c.args.rule.now.variables.now.items.items)) (shape_tree c.args.place.now) c.args.has_default (value_tree c.args.value.now) _ (ap value_tree c.in-Str.is ∙ string_tree c.in-Str._text) (no_use_of_string (schema_data c.args.rule.now.schema.now) (shape_tree c.args.place.now) c.args.has_default c.in-Str._text)

pub in_value-returns-in-Bool : goal.in_value-returns-in-Bool
in_value-returns-in-Bool t c = uses_of_leaf (schema_data c.args.rule.now.schema.now) (misplaced (schema_data c.args.rule.now.schema.now) (map declared_tree c.args.rule.now.variables.now.items.items)) (shape_tree c.args.place.now) c.args.has_default (value_tree c.args.value.now) _ (ap value_tree c.in-Bool.is ∙ boolean_tree c.in-Bool._truth) (no_use_of_boolean (schema_data c.args.rule.now.schema.now) (shape_tree c.args.place.now) c.args.has_default c.in-Bool._truth)

pub in_value-returns-in-Null : goal.in_value-returns-in-Null
in_value-returns-in-Null t c = uses_of_leaf (schema_data c.args.rule.now.schema.now) (misplaced (schema_data c.args.rule.now.schema.now) (map declared_tree c.args.rule.now.variables.now.items.items)) (shape_tree c.args.place.now) c.args.has_default (value_tree c.args.value.now) _ (ap value_tree c.in-Null.is ∙ null_tree) (no_use_of_null (schema_data c.args.rule.now.schema.now) (shape_tree c.args.place.now) c.args.has_default)

pub in_value-returns-in-EnumName : goal.in_value-returns-in-EnumName
in_value-returns-in-EnumName t c = uses_of_leaf (schema_data c.args.rule.now.schema.now) (misplaced (schema_data c.args.rule.now.schema.now) (map declared_tree c.args.rule.now.variables.now.items.items)) (shape_tree c.args.place.now) c.args.has_default (value_tree c.args.value.now) _ (ap value_tree c.in-EnumName.is ∙ enum_tree c.in-EnumName._name) (no_use_of_enum (schema_data c.args.rule.now.schema.now) (shape_tree c.args.place.now) c.args.has_default c.in-EnumName._name.text c.in-EnumName._name.at)

pub in_value-returns-in-Var : goal.in_value-returns-in-Var
in_value-returns-in-Var t c = c.misplaced.ensures ∙ is_use (schema_data c.args.rule.now.schema.now) (misplaced (schema_data c.args.rule.now.schema.now) (map declared_tree c.args.rule.now.variables.now.items.items)) (shape_tree c.args.place.now) c.args.has_default (value_tree c.args.value.now) c.in-Var.name.text c.in-Var.name.at (ap value_tree c.in-Var.is ∙ variable_tree c.in-Var.name)

pub in_value-returns-in-List : goal.in_value-returns-in-List
in_value-returns-in-List t c = c.in_list.ensures ∙ uses_of_list (schema_data c.args.rule.now.schema.now) (misplaced (schema_data c.args.rule.now.schema.now) (map declared_tree c.args.rule.now.variables.now.items.items)) (shape_tree c.args.place.now) c.args.has_default (value_tree c.args.value.now) (values_from (map value_tree c.in-List.items.items)) (values_from (map value_tree c.as_slice.result.now))
    (ap value_tree c.in-List.is ∙ list_tree c.in-List.items) (ap (λ l. values_from (map value_tree l)) c.as_slice.ensures.value)

pub in_value-returns-in-Object : goal.in_value-returns-in-Object
in_value-returns-in-Object t c = c.in_fields.ensures ∙ uses_of_object (schema_data c.args.rule.now.schema.now) (misplaced (schema_data c.args.rule.now.schema.now) (map declared_tree c.args.rule.now.variables.now.items.items)) (shape_tree c.args.place.now) c.args.has_default (value_tree c.args.value.now) (fields_from (map named_value c.in-Object.fields.items)) (fields_from (map named_value c.as_slice-in-Object.result.now)) (input_field_named (schema_data c.args.rule.now.schema.now) c.innermost.result.number)
    (ap value_tree c.in-Object.is ∙ object_tree c.in-Object.fields) (ap (λ l. fields_from (map named_value l)) c.as_slice-in-Object.ensures.value)
    (ap (input_field_named (schema_data c.args.rule.now.schema.now)) c.innermost.ensures)

pub in_items-returns-in-Some : goal.in_items-returns-in-Some
in_items-returns-in-Some t c = found_here _ _ _ _ c.in-Some.at (use_items_next (schema_data c.args.rule.now.schema.now) (misplaced (schema_data c.args.rule.now.schema.now) (map declared_tree c.args.rule.now.variables.now.items.items)) (shape_tree c.args.item.now) c.args.items.now c.loop-value.value-index c.value-item.result c.loop-value-test.true c.value-item.is) c.loop-value.invariant (sym c.in_value.ensures ∙ c.in-Some.is)

pub in_items-loop-value-preserved : goal.in_items-loop-value-preserved
in_items-loop-value-preserved t c = none_here _ _ _ _ (use_items_next (schema_data c.args.rule.now.schema.now) (misplaced (schema_data c.args.rule.now.schema.now) (map declared_tree c.args.rule.now.variables.now.items.items)) (shape_tree c.args.item.now) c.args.items.now c.loop-value.value-index c.value-item.result c.loop-value-test.true c.value-item.is) c.loop-value.invariant (sym c.in_value.ensures ∙ c.in-None.is)

pub in_items-returns : goal.in_items-returns
in_items-returns t c = sym (use_items_end (schema_data c.args.rule.now.schema.now) (misplaced (schema_data c.args.rule.now.schema.now) (map declared_tree c.args.rule.now.variables.now.items.items)) (shape_tree c.args.item.now) c.args.items.now c.loop-value.value-index c.loop-value-test.false) ∙ c.loop-value.invariant

pub in_fields-returns-in-Some : goal.in_fields-returns-in-Some
in_fields-returns-in-Some t c = found_here _ _ _ _ c.in-Some.at (use_fields_next (schema_data c.args.rule.now.schema.now) (misplaced (schema_data c.args.rule.now.schema.now) (map declared_tree c.args.rule.now.variables.now.items.items)) (input_in (schema_data c.args.rule.now.schema.now) c.args.inputs) c.args.fields.now c.loop-field.field-index c.field-item.result c.loop-field-test.true c.field-item.is) c.loop-field.invariant (sym c.in_field.ensures ∙ c.in-Some.is)

pub in_fields-loop-field-preserved : goal.in_fields-loop-field-preserved
in_fields-loop-field-preserved t c = none_here _ _ _ _ (use_fields_next (schema_data c.args.rule.now.schema.now) (misplaced (schema_data c.args.rule.now.schema.now) (map declared_tree c.args.rule.now.variables.now.items.items)) (input_in (schema_data c.args.rule.now.schema.now) c.args.inputs) c.args.fields.now c.loop-field.field-index c.field-item.result c.loop-field-test.true c.field-item.is) c.loop-field.invariant (sym c.in_field.ensures ∙ c.in-None.is)

pub in_fields-returns : goal.in_fields-returns
in_fields-returns t c = sym (use_fields_end (schema_data c.args.rule.now.schema.now) (misplaced (schema_data c.args.rule.now.schema.now) (map declared_tree c.args.rule.now.variables.now.items.items)) (input_in (schema_data c.args.rule.now.schema.now) c.args.inputs) c.args.fields.now c.loop-field.field-index c.loop-field-test.false) ∙ c.loop-field.invariant

pub in_field-returns-in-Some : goal.in_field-returns-in-Some
in_field-returns-in-Some t c = c.in_value.ensures ∙ (ap (λ d. first_of (misplaced (schema_data c.args.rule.now.schema.now) (map declared_tree c.args.rule.now.variables.now.items.items)) (uses_in (schema_data c.args.rule.now.schema.now) (shape_tree c.in-Some.input.now.shape) d (value_tree c.args.field.now.value))) (c.is_some.ensures ∙ sym (defaults_seen coerced_tree c.in-Some.input.now.default))
    ∙ in_input (schema_data c.args.rule.now.schema.now) (misplaced (schema_data c.args.rule.now.schema.now) (map declared_tree c.args.rule.now.variables.now.items.items)) (input_in (schema_data c.args.rule.now.schema.now) c.args.inputs) c.args.field.now c.as_str-name.result.now (Some (input_data c.in-Some.input.now)) c.as_str-name.ensures (ap maybe_input (sym c.in-Some.is) ∙ c.input_named.ensures))

pub in_field-returns-in-None : goal.in_field-returns-in-None
in_field-returns-in-None t c = in_input (schema_data c.args.rule.now.schema.now) (misplaced (schema_data c.args.rule.now.schema.now) (map declared_tree c.args.rule.now.variables.now.items.items)) (input_in (schema_data c.args.rule.now.schema.now) c.args.inputs) c.args.field.now c.as_str-name.result.now None c.as_str-name.ensures (ap maybe_input (sym c.in-None.is) ∙ c.input_named.ensures)
