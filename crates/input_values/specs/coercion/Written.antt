-- What literals come to at the places where they are written, beside the values of variables.
use Rattle.std.specs.Prelude.{ℕ, false, List, [], Option, drop}
use Rattle.gql_base.specs.declared.parts.trees.Value.{Value}
use Rattle.gql_base.specs.declared.parts.trees.Argument.{Argument}
use Rattle.gql_base.specs.parts.Trees.{value_tree}
use Rattle.input_values.specs.values.Coerced.{CoercedTree, coerced_list, CoercedFields}
use Rattle.input_values.specs.declared.inputs.shape.Shape.{Shape}
use Rattle.input_values.specs.inputs.Shapes.{shape_tree}
use Rattle.input_values.specs.declared.coercion.variables.VariableValue.{VariableValue}
use Rattle.input_values.specs.coercion.Answers.{Answer, mapped}
use Rattle.input_values.specs.coercion.Given.{Given, given_list, given_object, GivenFields, present}
use Rattle.input_values.specs.coercion.Forms.{FieldForm, InputForm, fields_of}
use Rattle.input_values.specs.coercion.Objects.{Finder, wrong_name, field_answer, fields_at, object_of, object_at}
use Rattle.input_values.specs.coercion.Coercion.{coerced, items_coerced, find_coerced}
use Rattle.input_values.specs.coercion.Literals.{values_of, literal_given, literal_items, literal_fields}
use Rattle.input_values.specs.coercion.Sizes.{items_written, fields_written, names_written}

-- what a literal gives, and what the fields of an object give
abbrev pub value_given : List VariableValue → Value → Given
value_given variables value = literal_given (values_of variables) (value_tree value)

abbrev pub fields_given : List VariableValue → List Argument → GivenFields
fields_given variables fields = literal_fields (values_of variables) (fields_written fields)

abbrev pub list_given : List VariableValue → List Value → Given
list_given variables items = given_list (literal_items (values_of variables) (items_written items))

-- `form` says what each named type asks, and these are the values of variables.
module _ (form : ℕ → InputForm) (variables : List VariableValue) where
  -- a literal at a place of this shape
  abbrev pub written_value : Value → Shape → Answer CoercedTree
  written_value value shape = coerced form (value_given variables value) (shape_tree shape)

  -- a list at a place of this shape, and its items each at a place of this shape
  abbrev pub written_list : List Value → Shape → Answer CoercedTree
  written_list items shape = coerced form (list_given variables items) (shape_tree shape)

  abbrev pub written_items : List Value → Shape → Answer CoercedTree
  written_items items item = mapped coerced_list (items_coerced form 0 (literal_items (values_of variables) (items_written items)) (shape_tree item))

  -- an object at a place of this shape
  abbrev pub written_object : List Argument → Shape → Answer CoercedTree
  written_object fields shape = coerced form (given_object false (fields_given variables fields)) (shape_tree shape)

  -- what coerces the value that is written under a name
  abbrev pub written_under : List Argument → Finder
  written_under fields name = find_coerced form name (fields_given variables fields)

  -- an object at the type of this number
  abbrev pub written_at_type : ℕ → List Argument → Answer CoercedTree
  written_at_type of fields = object_at (form of) false (fields_given variables fields) (written_under fields)

  -- the fields of an input object from a place on, in the order of their definitions
  abbrev pub written_fields : ℕ → List Argument → ℕ → Answer CoercedFields
  written_fields of fields at = fields_at (drop at (fields_of (form of))) (written_under fields)

  -- an input object: its names are looked at before its fields
  abbrev pub written_input : ℕ → List Argument → Answer CoercedTree
  written_input of fields = object_of (wrong_name false (fields_of (form of)) [] (names_written fields)) (written_fields of fields 0)

  -- a field of an input object, by all that is written, and by the literal that is written for it
  abbrev pub written_field : FieldForm → List Argument → Answer (Option CoercedTree)
  written_field f fields = field_answer f (written_under fields f.name)

  abbrev pub written_as : FieldForm → Value → Answer (Option CoercedTree)
  written_as f value = field_answer f (present (value_given variables value) (λ shape. coerced form (value_given variables value) shape))
