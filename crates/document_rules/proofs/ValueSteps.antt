-- The variables of values, and where they stand, level after level.
use Rattle.std.proofs.Common.{◌≡◌, ◌+◌, ◌<◌, ◌≤◌, ℕ, ℤ, Bool, false, List, [], map, drop, length, get_or, Option, None, Some, refl, sym, ap, ◌∙◌}
use Rattle.std.proofs.lemmas.List.{drop_all}
use Rattle.std.specs.Prelude.{is_some, option_map}
use Rattle.gql_base.proofs.Lists.{at_front}
use Rattle.gql_base.proofs.PrintingLaws.PrintSteps.{open_argument}
use Rattle.gql_base.specs.declared.parts.trees.Value.{Value}
use Rattle.gql_base.specs.declared.parts.trees.Argument.{Argument}
use Rattle.gql_base.specs.ways.Reading.{Identifier}
use Rattle.gql_base.specs.parts.Values.{ValueTree, variable_value, integer_value, float_value, string_value, boolean_value, null_value, enum_value, list_value, object_value, ValueTrees, FieldTrees, NamedValue, values_from, fields_from}
use Rattle.gql_base.specs.parts.Trees.{value_tree, named_value}
use Rattle.input_values.specs.inputs.Shapes.{ShapeTree}
use Rattle.input_values.specs.inputs.Definitions.{InputData}
use Rattle.input_values.specs.coercion.Places.{innermost}
use Rattle.schema_rules.specs.First.{or_else, first_of}
use Rattle.schema_model.specs.SchemaData.{SchemaData, input_field_named}
use Rattle.document_rules.specs.VariablePlaces.{variables_in, variables_in_items, variables_in_fields, Use, at_input, at_items, uses_in, uses_in_items, uses_in_fields, uses_in_field}
use Rattle.document_rules.proofs.Lists.{or_else_none, first_of_append}

-- ---- variables

module _ (test : Identifier → Option ℕ) where
  pub is_variable : (t : ValueTree) (name : List ℕ) (at : ℕ) → t ≡ variable_value name at → test (name, at) ≡ first_of test (variables_in t)
  unfolding variables_in
  is_variable t name at is = sym (or_else_none (test (name, at))) ∙ ap (λ v. first_of test (variables_in v)) (sym is)

  pub is_list : (t : ValueTree) (vs ws : ValueTrees) → t ≡ list_value vs → ws ≡ vs → first_of test (variables_in_items ws) ≡ first_of test (variables_in t)
  unfolding variables_in
  is_list t vs ws is same = ap (λ us. first_of test (variables_in_items us)) same ∙ ap (λ v. first_of test (variables_in v)) (sym is)

  pub is_object : (t : ValueTree) (fs gs : FieldTrees) → t ≡ object_value fs → gs ≡ fs → first_of test (variables_in_fields gs) ≡ first_of test (variables_in t)
  unfolding variables_in
  is_object t fs gs is same = ap (λ us. first_of test (variables_in_fields us)) same ∙ ap (λ v. first_of test (variables_in v)) (sym is)

  pub is_leaf : (t u : ValueTree) → t ≡ u → variables_in u ≡ [] → None ≡ first_of test (variables_in t)
  is_leaf t u is none = ap (first_of test) (sym none) ∙ ap (λ v. first_of test (variables_in v)) (sym is)

  pub items_next : (vs : List Value) (at : ℕ) (v : Value) → at < length vs → v ≡ get_or vs at v
      → first_of test (variables_in_items (values_from (map value_tree (drop at vs)))) ≡ or_else (first_of test (variables_in (value_tree v))) (first_of test (variables_in_items (values_from (map value_tree (drop (at + 1) vs)))))
  unfolding variables_in
  items_next vs at v within is = ap (λ l. first_of test (variables_in_items (values_from (map value_tree l)))) (at_front vs at v within is)
      ∙ first_of_append test (variables_in (value_tree v)) (variables_in_items (values_from (map value_tree (drop (at + 1) vs))))

  pub items_end : (vs : List Value) (at : ℕ) → length vs ≤ at → first_of test (variables_in_items (values_from (map value_tree (drop at vs)))) ≡ None
  unfolding variables_in
  items_end vs at past = ap (λ l. first_of test (variables_in_items (values_from (map value_tree l)))) (drop_all at vs past)

  pub fields_next : (fs : List Argument) (at : ℕ) (f : Argument) → at < length fs → f ≡ get_or fs at f
      → first_of test (variables_in_fields (fields_from (map named_value (drop at fs)))) ≡ or_else (first_of test (variables_in (named_value f).1)) (first_of test (variables_in_fields (fields_from (map named_value (drop (at + 1) fs)))))
  unfolding variables_in
  fields_next fs at f within is = ap (λ l. first_of test (variables_in_fields (fields_from (map named_value l)))) (at_front fs at f within is)
      ∙ first_of_append test (variables_in (named_value f).1) (variables_in_fields (fields_from (map named_value (drop (at + 1) fs))))

  pub fields_end : (fs : List Argument) (at : ℕ) → length fs ≤ at → first_of test (variables_in_fields (fields_from (map named_value (drop at fs)))) ≡ None
  unfolding variables_in
  fields_end fs at past = ap (λ l. first_of test (variables_in_fields (fields_from (map named_value l)))) (drop_all at fs past)

  pub in_argument : (a : Argument) → first_of test (variables_in (value_tree a.value)) ≡ first_of test (variables_in (named_value a).1)
  in_argument a = ap (λ (v : NamedValue). first_of test (variables_in v.1)) (sym (open_argument a))

  pub nothing_given : None ≡ first_of test (variables_in_fields (fields_from []))
  unfolding variables_in
  nothing_given = refl

pub no_integer : (n : ℤ) → variables_in (integer_value n) ≡ []
unfolding variables_in
no_integer n = refl

pub no_float : (digits : List ℕ) → variables_in (float_value digits) ≡ []
unfolding variables_in
no_float digits = refl

pub no_string : (s : List ℕ) → variables_in (string_value s) ≡ []
unfolding variables_in
no_string s = refl

pub no_boolean : (b : Bool) → variables_in (boolean_value b) ≡ []
unfolding variables_in
no_boolean b = refl

pub no_null : variables_in null_value ≡ []
unfolding variables_in
no_null = refl

pub no_enum : (name : List ℕ) (at : ℕ) → variables_in (enum_value name at) ≡ []
unfolding variables_in
no_enum name at = refl

-- ---- places

module _ (s : SchemaData) (test : Use → Option ℕ) where
  pub is_use : (place : ShapeTree) (d : Bool) (t : ValueTree) (name : List ℕ) (at : ℕ) → t ≡ variable_value name at → test (record { variable = (name, at); place = place; has_default = d }) ≡ first_of test (uses_in s place d t)
  unfolding uses_in
  is_use place d t name at is = sym (or_else_none (test (record { variable = (name, at); place = place; has_default = d }))) ∙ ap (λ v. first_of test (uses_in s place d v)) (sym is)

  pub uses_of_list : (place : ShapeTree) (d : Bool) (t : ValueTree) (vs ws : ValueTrees) → t ≡ list_value vs → ws ≡ vs → first_of test (at_items (λ item. uses_in_items s item ws) place) ≡ first_of test (uses_in s place d t)
  unfolding uses_in
  uses_of_list place d t vs ws is same = ap (λ us. first_of test (at_items (λ item. uses_in_items s item us) place)) same ∙ ap (λ v. first_of test (uses_in s place d v)) (sym is)

  pub uses_of_object : (place : ShapeTree) (d : Bool) (t : ValueTree) (fs gs : FieldTrees) (inputs : List ℕ → Option InputData) → t ≡ object_value fs → gs ≡ fs → inputs ≡ input_field_named s (innermost place)
      → first_of test (uses_in_fields s inputs gs) ≡ first_of test (uses_in s place d t)
  unfolding uses_in
  uses_of_object place d t fs gs inputs is same known = ap (λ us. first_of test (uses_in_fields s inputs us)) same ∙ (ap (λ is. first_of test (uses_in_fields s is fs)) known ∙ ap (λ v. first_of test (uses_in s place d v)) (sym is))

  pub uses_of_leaf : (place : ShapeTree) (d : Bool) (t u : ValueTree) → t ≡ u → uses_in s place d u ≡ [] → None ≡ first_of test (uses_in s place d t)
  uses_of_leaf place d t u is none = ap (first_of test) (sym none) ∙ ap (λ v. first_of test (uses_in s place d v)) (sym is)

  pub use_items_next : (item : ShapeTree) (vs : List Value) (at : ℕ) (v : Value) → at < length vs → v ≡ get_or vs at v
      → first_of test (uses_in_items s item (values_from (map value_tree (drop at vs)))) ≡ or_else (first_of test (uses_in s item false (value_tree v))) (first_of test (uses_in_items s item (values_from (map value_tree (drop (at + 1) vs)))))
  unfolding uses_in
  use_items_next item vs at v within is = ap (λ l. first_of test (uses_in_items s item (values_from (map value_tree l)))) (at_front vs at v within is)
      ∙ first_of_append test (uses_in s item false (value_tree v)) (uses_in_items s item (values_from (map value_tree (drop (at + 1) vs))))

  pub use_items_end : (item : ShapeTree) (vs : List Value) (at : ℕ) → length vs ≤ at → first_of test (uses_in_items s item (values_from (map value_tree (drop at vs)))) ≡ None
  unfolding uses_in
  use_items_end item vs at past = ap (λ l. first_of test (uses_in_items s item (values_from (map value_tree l)))) (drop_all at vs past)

  pub use_fields_next : (inputs : List ℕ → Option InputData) (fs : List Argument) (at : ℕ) (f : Argument) → at < length fs → f ≡ get_or fs at f
      → first_of test (uses_in_fields s inputs (fields_from (map named_value (drop at fs)))) ≡ or_else (first_of test (uses_in_field s inputs (named_value f))) (first_of test (uses_in_fields s inputs (fields_from (map named_value (drop (at + 1) fs)))))
  unfolding uses_in
  use_fields_next inputs fs at f within is = ap (λ l. first_of test (uses_in_fields s inputs (fields_from (map named_value l)))) (at_front fs at f within is)
      ∙ first_of_append test (uses_in_field s inputs (named_value f)) (uses_in_fields s inputs (fields_from (map named_value (drop (at + 1) fs))))

  pub use_fields_end : (inputs : List ℕ → Option InputData) (fs : List Argument) (at : ℕ) → length fs ≤ at → first_of test (uses_in_fields s inputs (fields_from (map named_value (drop at fs)))) ≡ None
  unfolding uses_in
  use_fields_end inputs fs at past = ap (λ l. first_of test (uses_in_fields s inputs (fields_from (map named_value l)))) (drop_all at fs past)

module _ (s : SchemaData) (place : ShapeTree) (d : Bool) where
  pub no_use_of_integer : (n : ℤ) → uses_in s place d (integer_value n) ≡ []
  unfolding uses_in
  no_use_of_integer n = refl

  pub no_use_of_float : (digits : List ℕ) → uses_in s place d (float_value digits) ≡ []
  unfolding uses_in
  no_use_of_float digits = refl

  pub no_use_of_string : (text : List ℕ) → uses_in s place d (string_value text) ≡ []
  unfolding uses_in
  no_use_of_string text = refl

  pub no_use_of_boolean : (b : Bool) → uses_in s place d (boolean_value b) ≡ []
  unfolding uses_in
  no_use_of_boolean b = refl

  pub no_use_of_null : uses_in s place d null_value ≡ []
  unfolding uses_in
  no_use_of_null = refl

  pub no_use_of_enum : (name : List ℕ) (at : ℕ) → uses_in s place d (enum_value name at) ≡ []
  unfolding uses_in
  no_use_of_enum name at = refl

pub defaults_seen : {A B : Type 0} (f : A → B) (o : Option A) → is_some (option_map f o) ≡ is_some o
defaults_seen f None = refl
defaults_seen f (Some a) = refl

-- what a field of an object has, by the input field of its name
pub in_input : (s : SchemaData) (test : Use → Option ℕ) (inputs : List ℕ → Option InputData) (f : Argument) (name : List ℕ) (found : Option InputData) → name ≡ f.name.text → found ≡ inputs name
    → first_of test (at_input (λ place d. uses_in s place d (value_tree f.value)) found) ≡ first_of test (uses_in_field s inputs (named_value f))
in_input s test inputs f name found named is =
    ap (λ o. first_of test (at_input (λ place d. uses_in s place d (value_tree f.value)) o)) (is ∙ ap inputs named)
    ∙ ap (λ (v : NamedValue). first_of test (uses_in_field s inputs v)) (sym (open_argument f))
