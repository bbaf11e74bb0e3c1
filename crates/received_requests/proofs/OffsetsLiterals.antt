-- What arguments give, and whether selections are left out, doesn't depend on the offsets of names.
use Rattle.std.proofs.Common.{◌≡◌, ⊎_elim, ℕ, List, [], ◌∷◌, map, true, false, not, ◌||◌, bytes_eq, Option, None, Some, refl, ap, ap₂, ◌∙◌}
use Rattle.std.specs.Prelude.{codes, option_map, option_and_then, if◌then◌else◌}
use Rattle.std.specs.List.{list_any}
use Rattle.std.proofs.lemmas.Bool.{cases_Bool}
use Rattle.std.proofs.Math.Path.{fun_ext}
use Rattle.gql_base.specs.names.Names.{first_of_name}
use Rattle.gql_base.specs.parts.Values.{ValueTree, NamedValue, variable_value, integer_value, float_value, string_value, boolean_value, null_value, enum_value, list_value, object_value, ValueTrees, no_value, value_then, FieldTrees, no_field, field_then}
use Rattle.gql_base.specs.parts.Arguments.{DirectiveTree}
use Rattle.gql_base.specs.printing.PrintedTrees.{placeless, all_placeless, fields_placeless}
use Rattle.input_values.specs.coercion.Given.{given_list, given_object, given_then, given_field_then}
use Rattle.input_values.specs.coercion.Literals.{Environment, literal_given, literal_items, literal_fields}
use Rattle.document_reader.specs.Documents.{SelectionTree, field_selection, fragment_spread, inline_fragment}
use Rattle.document_reader.specs.PlacelessDocuments.{argument_placeless, directive_placeless, selection_placeless, selections_placeless}
use Rattle.schema_model.specs.SchemaData.{SchemaData, field_at}
use Rattle.schema_model.specs.InputForms.{input_forms}
use Rattle.variable_coercion.specs.Refusals.{all_in_order}
use Rattle.variable_coercion.specs.Arguments.{argument_answer}
use Rattle.plan_model.specs.SelectedFields.{argument_name, given_under, coerced_arguments}
use Rattle.plan_model.specs.Collecting.{truth_in, condition_of, is_true, is_false, leaves_out, is_included}

-- the first argument of a name
argument_named : (args : List NamedValue) (name : List ℕ) → first_of_name argument_name (map argument_placeless args) name ≡ option_map argument_placeless (first_of_name argument_name args name)
argument_named [] name = refl
argument_named (a ∷ args) name = ⊎_elim
    (λ (is : bytes_eq a.0.0 name ≡ true). rw (is) refl)
    (λ (isnt : bytes_eq a.0.0 name ≡ false). rw (isnt) (argument_named args name))
    (cases_Bool (bytes_eq a.0.0 name))

module _ (values : Environment) where
  mutual
    unfolding placeless

    same_literal : (v : ValueTree) → literal_given values (placeless v) ≡ literal_given values v
    same_literal (variable_value name at) = refl
    same_literal (integer_value z) = refl
    same_literal (float_value z) = refl
    same_literal (string_value s) = refl
    same_literal (boolean_value b) = refl
    same_literal null_value = refl
    same_literal (enum_value name at) = refl
    same_literal (list_value vs) = ap given_list (same_items vs)
    same_literal (object_value fs) = ap (given_object false) (same_fields fs)

    same_items : (vs : ValueTrees) → literal_items values (all_placeless vs) ≡ literal_items values vs
    same_items no_value = refl
    same_items (value_then v vs) = ap₂ given_then (same_literal v) (same_items vs)

    same_fields : (fs : FieldTrees) → literal_fields values (fields_placeless fs) ≡ literal_fields values fs
    same_fields no_field = refl
    same_fields (field_then name at v fs) = ap₂ (given_field_then name) (same_literal v) (same_fields fs)

  given_alike : (o : Option NamedValue) → option_map (λ a. literal_given values a.1) (option_map argument_placeless o) ≡ option_map (λ a. literal_given values a.1) o
  given_alike None = refl
  given_alike (Some a) = ap Some (same_literal a.1)

  same_given : (args : List NamedValue) (name : List ℕ) → given_under values (map argument_placeless args) name ≡ given_under values args name
  same_given args name = ap (option_map (λ a. literal_given values a.1)) (argument_named args name) ∙ given_alike (first_of_name argument_name args name)

  pub same_coerced : (s : SchemaData) (field : ℕ) (args : List NamedValue) → coerced_arguments s field (map argument_placeless args) values ≡ coerced_arguments s field args values
  unfolding coerced_arguments
  same_coerced s field args = ap (λ given. all_in_order (λ i. argument_answer (input_forms s) i (given i.name)) (field_at s field).arguments) (fun_ext (λ name. same_given args name))

  -- ---- `@skip` and `@include`

  same_truth : (v : ValueTree) → truth_in values (placeless v) ≡ truth_in values v
  unfolding placeless
  same_truth (variable_value name at) = refl
  same_truth (integer_value z) = refl
  same_truth (float_value z) = refl
  same_truth (string_value s) = refl
  same_truth (boolean_value b) = refl
  same_truth null_value = refl
  same_truth (enum_value name at) = refl
  same_truth (list_value vs) = refl
  same_truth (object_value fs) = refl

  truth_alike : (o : Option NamedValue) → option_and_then (λ a. truth_in values a.1) (option_map argument_placeless o) ≡ option_and_then (λ a. truth_in values a.1) o
  truth_alike None = refl
  truth_alike (Some a) = same_truth a.1

  same_condition : (d : DirectiveTree) → condition_of values (directive_placeless d) ≡ condition_of values d
  same_condition d = ap (option_and_then (λ a. truth_in values a.1)) (argument_named d.1 (codes "if")) ∙ truth_alike (first_of_name argument_name d.1 (codes "if"))

  same_leaving : (d : DirectiveTree) → leaves_out values (directive_placeless d) ≡ leaves_out values d
  same_leaving d =
      ap (λ c. if bytes_eq d.0.0 (codes "skip") then is_true c else if bytes_eq d.0.0 (codes "include") then is_false c else false) (same_condition d)

  same_leavings : (ds : List DirectiveTree) → list_any (leaves_out values) (map directive_placeless ds) ≡ list_any (leaves_out values) ds
  same_leavings [] = refl
  same_leavings (d ∷ ds) = ap₂ ◌||◌ (same_leaving d) (same_leavings ds)

  pub same_inclusion : (x : SelectionTree) → is_included values (selection_placeless x) ≡ is_included values x
  unfolding is_included selection_placeless selections_placeless
  same_inclusion (field_selection names arguments directives below) = ap not (same_leavings directives)
  same_inclusion (fragment_spread name directives) = ap not (same_leavings directives)
  same_inclusion (inline_fragment on directives below) = ap not (same_leavings directives)
