-- Where variables are used, and whether a variable may be used there (GraphQL October 2021, 5.8).
use Rattle.std.specs.Prelude.{ℕ, Bool, true, false, not, ◌&&◌, ◌||◌, is_some, List, [], ◌∷◌, ◌++◌, Option, None, Some, codes}
use Rattle.std.specs.Str.{bytes_eq}
use Rattle.gql_base.specs.ways.Reading.{Identifier}
use Rattle.gql_base.specs.parts.Values.{ValueTree, variable_value, integer_value, float_value, string_value, boolean_value, null_value, enum_value, list_value, object_value, ValueTrees, no_value, value_then, FieldTrees, no_field, field_then, NamedValue}
use Rattle.gql_base.specs.parts.TypeReferences.{TypeTree, named_type, list_type, non_null_type}
use Rattle.document_reader.specs.Documents.{VariableTree}
use Rattle.input_values.specs.inputs.Shapes.{ShapeTree, named_shape, list_shape}
use Rattle.input_values.specs.inputs.Definitions.{InputData}
use Rattle.input_values.specs.coercion.Places.{innermost}
use Rattle.schema_model.specs.SchemaData.{SchemaData, type_at, input_field_named}

-- ---- the variables of a value, in the order of the text

unfoldable mutual
  pub variables_in : ValueTree → List Identifier
  variables_in (variable_value name at) = (name, at) ∷ []
  variables_in (integer_value n) = []
  variables_in (float_value n) = []
  variables_in (string_value s) = []
  variables_in (boolean_value b) = []
  variables_in null_value = []
  variables_in (enum_value name at) = []
  variables_in (list_value values) = variables_in_items values
  variables_in (object_value fields) = variables_in_fields fields

  pub variables_in_items : ValueTrees → List Identifier
  variables_in_items no_value = []
  variables_in_items (value_then v others) = variables_in v ++ variables_in_items others

  pub variables_in_fields : FieldTrees → List Identifier
  variables_in_fields no_field = []
  variables_in_fields (field_then name at v others) = variables_in v ++ variables_in_fields others

-- ---- the same with their places

-- a variable with the type of the place where it stands, and whether that place has a default
pub record Use : Type 0 where
  pub variable : Identifier
  pub place : ShapeTree
  pub has_default : Bool

-- what a value has at the place of an argument or of an input field, if there is one
abbrev pub at_input : (ShapeTree → Bool → List Use) → Option InputData → List Use
at_input uses None = []
at_input uses (Some input) = uses input.shape (is_some input.default)

-- what a list has at a place, by what it has where its items have a place
abbrev pub at_items : (ShapeTree → List Use) → ShapeTree → List Use
at_items uses (named_shape of nullable) = []
at_items uses (list_shape item nullable) = uses item

-- ---- types that fit places

-- whether a named type fits a place, by whether it is the type of a number
abbrev pub fits_name : (ℕ → Bool) → Bool → ShapeTree → Bool
fits_name is never_null (named_shape of nullable) = (never_null || nullable) && is of
fits_name is never_null (list_shape item nullable) = false

-- whether a list type fits a place, by whether its items fit a place
abbrev pub fits_list : (ShapeTree → Bool) → Bool → ShapeTree → Bool
fits_list item_fits never_null (named_shape of nullable) = false
fits_list item_fits never_null (list_shape item nullable) = (never_null || nullable) && item_fits item

abbrev pub is_null : ValueTree → Bool
is_null null_value = true
is_null (variable_value name at) = false
is_null (integer_value n) = false
is_null (float_value n) = false
is_null (string_value s) = false
is_null (boolean_value b) = false
is_null (enum_value name at) = false
is_null (list_value values) = false
is_null (object_value fields) = false

-- whether a variable has a default other than null
abbrev pub has_value : Option ValueTree → Bool
has_value None = false
has_value (Some v) = not (is_null v)

-- whether each value of a type may stand at `Boolean!`, where null never comes or it is said that it doesn't
unfoldable pub fits_condition : Bool → TypeTree → Bool
fits_condition never_null (non_null_type t) = fits_condition true t
fits_condition never_null (named_type name at) = never_null && bytes_eq name (codes "Boolean")
fits_condition never_null (list_type t) = false

module _ (s : SchemaData) where
  -- A list stands at a list type with each of its items at the type of items. An object stands at an input object type, also
  -- inside lists, with each of its fields at the input field of that name. A literal that doesn't fit its place has no
  -- places inside.
  unfoldable mutual
    pub uses_in : ShapeTree → Bool → ValueTree → List Use
    uses_in place has_default (variable_value name at) = record { variable = (name, at); place = place; has_default = has_default } ∷ []
    uses_in place has_default (integer_value n) = []
    uses_in place has_default (float_value n) = []
    uses_in place has_default (string_value s) = []
    uses_in place has_default (boolean_value b) = []
    uses_in place has_default null_value = []
    uses_in place has_default (enum_value name at) = []
    uses_in place has_default (list_value values) = at_items (λ item. uses_in_items item values) place
    uses_in place has_default (object_value fields) = uses_in_fields (input_field_named s (innermost place)) fields

    pub uses_in_items : ShapeTree → ValueTrees → List Use
    uses_in_items item no_value = []
    uses_in_items item (value_then v others) = uses_in item false v ++ uses_in_items item others

    pub uses_in_fields : (List ℕ → Option InputData) → FieldTrees → List Use
    uses_in_fields input no_field = []
    uses_in_fields input (field_then name at v others) = at_input (λ place has_default. uses_in place has_default v) (input name) ++ uses_in_fields input others

  -- the variables of one of them
  abbrev pub uses_in_field : (List ℕ → Option InputData) → NamedValue → List Use
  uses_in_field input field = at_input (λ place has_default. uses_in place has_default field.1) (input field.0.0)

  -- Whether each value of a variable's type may stand at a place. Null may come only where it may stand, or where it is
  -- said that it never comes. Lists fit by their items, and named types are equal.
  unfoldable pub fits : Bool → TypeTree → ShapeTree → Bool
  fits never_null (non_null_type t) place = fits true t place
  fits never_null (named_type name at) place = fits_name (λ of. bytes_eq name (type_at s of).name) never_null place
  fits never_null (list_type t) place = fits_list (fits false t) never_null place

  -- Whether a variable may be used there: where it has a default other than null or the place has a default, null doesn't
  -- matter.
  abbrev pub is_usable : VariableTree → Use → Bool
  is_usable v u = fits (has_value v.2 || u.has_default) v.1 u.place
