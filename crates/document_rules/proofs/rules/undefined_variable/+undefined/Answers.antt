use Rattle.std.proofs.Common.{sym, ap, ◌∙◌, map}
use Rattle.gql_base.specs.parts.Values.{values_from, fields_from}
use Rattle.gql_base.specs.parts.Trees.{value_tree, named_value}
use Rattle.gql_base.proofs.PartLaws.ValueSteps.{variable_tree, integer_tree, float_tree, string_tree, boolean_tree, null_tree, enum_tree, list_tree, object_tree}
use Rattle.document_rules.specs.Views.{declared_tree}
use Rattle.document_rules.proofs.Lists.{found_here, none_here}
use Rattle.document_rules.specs.Rules.{undeclared}
use Rattle.document_rules.proofs.ValueSteps.{is_variable, is_list, is_object, is_leaf, items_next, items_end, fields_next, fields_end, in_argument, no_integer, no_float, no_string, no_boolean, no_null, no_enum}
use Rattle.document_rules.proofs.rules.undefined_variable.+undefined.Goals as goal

pub undefined_in_value-returns-in-Int : goal.undefined_in_value-returns-in-Int
undefined_in_value-returns-in-Int t c = is_leaf (undeclared (map declared_tree c.args.variables.now.items.items)) (value_tree c.args.value.now) _ (ap value_tree c.in-Int.is ∙ integer_tree c.in-Int._number) (no_integer c.in-Int._number)

pub undefined_in_value-returns-in-Float : goal.undefined_in_value-returns-in-Float
undefined_in_value-returns-in-Float t c = is_leaf (undeclared (map declared_tree c.args.variables.now.items.items)) (value_tree c.args.value.now) _ (ap value_tree c.in-Float.is ∙ float_tree c.in-Float._text) (no_float c.in-Float._text)

pub undefined_in_value-returns-in-Str : goal.undefined_in_value-returns-in-Str
undefined_in_value-returns-in-Str t c = is_leaf (undeclared (map declared_tree c.args.variables.now.items.items)) (value_tree c.args.value.now) _ (ap value_tree c.in-Str.is ∙ string_tree c.in-Str._text) (no_string c.in-Str._text)

pub undefined_in_value-returns-in-Bool : goal.undefined_in_value-returns-in-Bool
undefined_in_value-returns-in-Bool t c = is_leaf (undeclared (map declared_tree c.args.variables.now.items.items)) (value_tree c.args.value.now) _ (ap value_tree c.in-Bool.is ∙ boolean_tree c.in-Bool._truth) (no_boolean c.in-Bool._truth)

pub undefined_in_value-returns-in-Null : goal.undefined_in_value-returns-in-Null
undefined_in_value-returns-in-Null t c = is_leaf (undeclared (map declared_tree c.args.variables.now.items.items)) (value_tree c.args.value.now) _ (ap value_tree c.in-Null.is ∙ null_tree) (no_null)

pub undefined_in_value-returns-in-EnumName : goal.undefined_in_value-returns-in-EnumName
undefined_in_value-returns-in-EnumName t c = is_leaf (undeclared (map declared_tree c.args.variables.now.items.items)) (value_tree c.args.value.now) _ (ap value_tree c.in-EnumName.is ∙ enum_tree c.in-EnumName._name) (no_enum c.in-EnumName._name.text c.in-EnumName._name.at)

pub undefined_in_value-returns-in-Var : goal.undefined_in_value-returns-in-Var
undefined_in_value-returns-in-Var t c = c.undeclared.ensures ∙ is_variable (undeclared (map declared_tree c.args.variables.now.items.items)) (value_tree c.args.value.now) c.in-Var.name.text c.in-Var.name.at (ap value_tree c.in-Var.is ∙ variable_tree c.in-Var.name)

pub undefined_in_value-returns-in-List : goal.undefined_in_value-returns-in-List
undefined_in_value-returns-in-List t c = c.undefined_in_items.ensures ∙ is_list (undeclared (map declared_tree c.args.variables.now.items.items)) (value_tree c.args.value.now) (values_from (map value_tree c.in-List.items.items)) (values_from (map value_tree c.as_slice.result.now))
    (ap value_tree c.in-List.is ∙ list_tree c.in-List.items) (ap (λ l. values_from (map value_tree l)) c.as_slice.ensures.value)

pub undefined_in_value-returns-in-Object : goal.undefined_in_value-returns-in-Object
undefined_in_value-returns-in-Object t c = c.undefined_in.ensures ∙ is_object (undeclared (map declared_tree c.args.variables.now.items.items)) (value_tree c.args.value.now) (fields_from (map named_value c.in-Object.fields.items)) (fields_from (map named_value c.as_slice-in-Object.result.now))
    (ap value_tree c.in-Object.is ∙ object_tree c.in-Object.fields) (ap (λ l. fields_from (map named_value l)) c.as_slice-in-Object.ensures.value)

pub undefined_in_items-returns-in-Some : goal.undefined_in_items-returns-in-Some
undefined_in_items-returns-in-Some t c = found_here _ _ _ _ c.in-Some.at (items_next (undeclared (map declared_tree c.args.variables.now.items.items)) c.args.items.now c.loop-item.item-index c.item-item.result c.loop-item-test.true c.item-item.is) c.loop-item.invariant (sym c.undefined_in_value.ensures ∙ c.in-Some.is)

pub undefined_in_items-loop-item-preserved : goal.undefined_in_items-loop-item-preserved
undefined_in_items-loop-item-preserved t c = none_here _ _ _ _ (items_next (undeclared (map declared_tree c.args.variables.now.items.items)) c.args.items.now c.loop-item.item-index c.item-item.result c.loop-item-test.true c.item-item.is) c.loop-item.invariant (sym c.undefined_in_value.ensures ∙ c.in-None.is)

pub undefined_in_items-returns : goal.undefined_in_items-returns
undefined_in_items-returns t c = sym (items_end (undeclared (map declared_tree c.args.variables.now.items.items)) c.args.items.now c.loop-item.item-index c.loop-item-test.false) ∙ c.loop-item.invariant

pub undefined_in-returns-in-Some : goal.undefined_in-returns-in-Some
undefined_in-returns-in-Some t c = found_here _ _ _ _ c.in-Some.at (fields_next (undeclared (map declared_tree c.args.variables.now.items.items)) c.args.fields.now c.loop-field.field-index c.field-item.result c.loop-field-test.true c.field-item.is) c.loop-field.invariant (sym c.undefined_in_argument.ensures ∙ c.in-Some.is)

pub undefined_in-loop-field-preserved : goal.undefined_in-loop-field-preserved
undefined_in-loop-field-preserved t c = none_here _ _ _ _ (fields_next (undeclared (map declared_tree c.args.variables.now.items.items)) c.args.fields.now c.loop-field.field-index c.field-item.result c.loop-field-test.true c.field-item.is) c.loop-field.invariant (sym c.undefined_in_argument.ensures ∙ c.in-None.is)

pub undefined_in-returns : goal.undefined_in-returns
undefined_in-returns t c = sym (fields_end (undeclared (map declared_tree c.args.variables.now.items.items)) c.args.fields.now c.loop-field.field-index c.loop-field-test.false) ∙ c.loop-field.invariant

pub undefined_in_argument-returns : goal.undefined_in_argument-returns
undefined_in_argument-returns t c = c.undefined_in_value.ensures ∙ in_argument (undeclared (map declared_tree c.args.variables.now.items.items)) c.args.argument.now
