use Rattle.std.proofs.Common.{sym, ap, ◌∙◌, map}
use Rattle.gql_base.specs.parts.Values.{string_value, float_value, variable_value, boolean_value, null_value, enum_value, list_value, object_value, values_from, fields_from}
use Rattle.gql_base.specs.parts.Trees.{value_tree, named_value}
use Rattle.gql_base.proofs.PartLaws.ValueSteps.{variable_tree, float_tree, string_tree, boolean_tree, null_tree, enum_tree, list_tree, object_tree}
use Rattle.input_values.specs.coercion.Literals.{literal_given}
use Rattle.plan_model.specs.GivenAlike.{given_argument}
use Rattle.distinct_selections.proofs.WrittenAlike as alike
use Rattle.distinct_selections.proofs.WrittenAlike.{all_passed, all_passed_by}
use Rattle.distinct_selections.proofs.written.+written.Goals as goal
use Rattle.distinct_selections.proofs.written.+written.Goals.{alike_items-then-items-test+else-at-others, alike_items-else-items-test, alike_arguments-then-arguments-test+else-at-others, alike_arguments-else-arguments-test}

pub alike-returns-in-Var : goal.alike-returns-in-Var
alike-returns-in-Var t c = λ h. alike.opened c.args.value.now (variable_value c.in-Var.name.text c.in-Var.name.at) (value_tree c.args.other.now) (ap value_tree c.in-Var.is ∙ variable_tree c.in-Var.name) (c.is_variable.ensures h)

pub alike-returns-in-Int : goal.alike-returns-in-Int
alike-returns-in-Int t c = alike.integer_alike c.is_integer.result c.in-Int.number c.args.other.now c.args.value.now c.in-Int.is c.is_integer.ensures

pub alike-returns-in-Float : goal.alike-returns-in-Float
alike-returns-in-Float t c = λ h. alike.opened c.args.value.now (float_value c.in-Float.text) (value_tree c.args.other.now) (ap value_tree c.in-Float.is ∙ float_tree c.in-Float.text) (c.is_float.ensures h)

pub alike-returns-in-Str : goal.alike-returns-in-Str
alike-returns-in-Str t c = λ h. alike.opened c.args.value.now (string_value c.in-Str.text) (value_tree c.args.other.now) (ap value_tree c.in-Str.is ∙ string_tree c.in-Str.text) (c.is_string.ensures h)

pub alike-returns-in-Bool : goal.alike-returns-in-Bool
alike-returns-in-Bool t c = λ h. alike.opened c.args.value.now (boolean_value c.in-Bool.truth) (value_tree c.args.other.now) (ap value_tree c.in-Bool.is ∙ boolean_tree c.in-Bool.truth) (c.is_truth.ensures h)

pub alike-returns-in-Null : goal.alike-returns-in-Null
alike-returns-in-Null t c = λ h. alike.opened c.args.value.now null_value (value_tree c.args.other.now) (ap value_tree c.in-Null.is ∙ null_tree) (c.is_null.ensures h)

pub alike-returns-in-EnumName : goal.alike-returns-in-EnumName
alike-returns-in-EnumName t c = λ h. alike.opened c.args.value.now (enum_value c.in-EnumName.name.text c.in-EnumName.name.at) (value_tree c.args.other.now) (ap value_tree c.in-EnumName.is ∙ enum_tree c.in-EnumName.name) (c.is_enum.ensures h)

pub alike-returns-in-List : goal.alike-returns-in-List
alike-returns-in-List t c = λ h. alike.opened c.args.value.now (list_value (values_from (map value_tree c.as_slice.result.now))) (value_tree c.args.other.now)
    (ap value_tree c.in-List.is ∙ (list_tree c.in-List.items ∙ ap (λ l. list_value (values_from (map value_tree l))) (sym c.as_slice.ensures.value))) (c.alike_list.ensures h)

pub alike-returns-in-Object : goal.alike-returns-in-Object
alike-returns-in-Object t c = λ h. alike.opened c.args.value.now (object_value (fields_from (map named_value c.as_slice-in-Object.result.now))) (value_tree c.args.other.now)
    (ap value_tree c.in-Object.is ∙ (object_tree c.in-Object.fields ∙ ap (λ l. object_value (fields_from (map named_value l))) (sym c.as_slice-in-Object.ensures.value))) (c.alike_object.ensures h)

pub alike_list-returns-in-List : goal.alike_list-returns-in-List
alike_list-returns-in-List t c = λ h. alike.is_list (map value_tree c.args.items.now) c.as_slice.result.now c.in-List.others c.args.value.now c.in-List.is c.as_slice.ensures.value (c.alike_items.ensures h)

pub alike_object-returns-in-Object : goal.alike_object-returns-in-Object
alike_object-returns-in-Object t c = λ h. alike.is_object (map named_value c.args.fields.now) c.as_slice.result.now c.in-Object.others c.args.value.now c.in-Object.is c.as_slice.ensures.value (c.alike_arguments.ensures h)

pub alike_argument-returns-then-same_text : goal.alike_argument-returns-then-same_text
alike_argument-returns-then-same_text t c = λ h. alike.argument_alike c.args.argument.now c.args.other.now (sym c.same_text.ensures ∙ c.if-same_text.true) (c.alike.ensures h)

pub alike_items-returns : goal.alike_items-returns
alike_items-returns t c = λ h values. alike.both_whole value_tree (literal_given values) c.args.items.now c.args.others.now c.items.at
    (elim c.items-test.branch [ alike_items-then-items-test+else-at-others w ↦ all_passed_by _ _ _ h w.if-at-others.false | alike_items-else-items-test w ↦ w.items-test.false ])
    (elim c.items-test.branch [ alike_items-then-items-test+else-at-others w ↦ w.if-at-others.false | alike_items-else-items-test w ↦ all_passed _ _ _ h w.items-test.false ])
    (c.items.invariant values)

pub alike_arguments-returns : goal.alike_arguments-returns
alike_arguments-returns t c = λ h values. alike.both_whole named_value (given_argument values) c.args.arguments.now c.args.others.now c.arguments.at
    (elim c.arguments-test.branch [ alike_arguments-then-arguments-test+else-at-others w ↦ all_passed_by _ _ _ h w.if-at-others.false | alike_arguments-else-arguments-test w ↦ w.arguments-test.false ])
    (elim c.arguments-test.branch [ alike_arguments-then-arguments-test+else-at-others w ↦ w.if-at-others.false | alike_arguments-else-arguments-test w ↦ all_passed _ _ _ h w.arguments-test.false ])
    (c.arguments.invariant values)
