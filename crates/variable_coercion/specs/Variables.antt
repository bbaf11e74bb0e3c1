-- The values of an operation's variables (GraphQL October 2021, 6.1.2).
use Rattle.std.specs.Prelude.{ℕ, List, ◌++◌, Bool, true, map, Option, Some, None, Result, Ok, Err}
use Rattle.gql_base.specs.names.Names.{first_of_name}
use Rattle.gql_base.specs.parts.Values.{ValueTree}
use Rattle.gql_base.specs.parts.Trees.{type_tree, maybe_value}
use Rattle.serde_json.specs.Data.{Data}
use Rattle.serde_json.specs.Find.{get}
use Rattle.document_reader.specs.declared.trees.VariableDef.{VariableDef}
use Rattle.input_values.specs.values.Coerced.{CoercedTree}
use Rattle.input_values.specs.inputs.Shapes.{ShapeTree, shape_by, is_nullable}
use Rattle.input_values.specs.coercion.Coercion.{coerced}
use Rattle.input_values.specs.coercion.Forms.{InputForm}
use Rattle.input_values.specs.coercion.Literals.{Environment, no_variables, literal_given}
use Rattle.schema_model.specs.SchemaData.{SchemaData, type_named}
use Rattle.schema_model.specs.Drafts.{or_past}
use Rattle.schema_model.specs.InputForms.{input_forms}
use Rattle.variable_coercion.specs.Json.{json_given}
use Rattle.variable_coercion.specs.Refusals.{Unfit, unfit_at, unfit_size, fitting, Refusal, bad_value, too_large, given_value, no_value, all_in_order}

-- a variable as it is declared
pub record Declared : Type 0 where
  pub name : List ℕ
  pub shape : ShapeTree
  pub default : Option ValueTree

-- a variable by its name, and its value where it has one
pub record VariableData : Type 0 where
  pub name : List ℕ
  pub value : Option CoercedTree

-- the number of the type of this name, or the number of all types where none has it
abbrev pub number_in : SchemaData → List ℕ → ℕ
number_in s name = or_past s.types (type_named s name)

abbrev pub declared_of : SchemaData → VariableDef → Declared
declared_of s v = record { name = v.name.text; shape = shape_by (number_in s) true (type_tree v.of); default = maybe_value v.default }

-- A path begins with the variable's name.
abbrev pub variable_refusal : List ℕ → Unfit → Refusal
variable_refusal name (unfit_at path) = bad_value (name ++ path)
variable_refusal name unfit_size = too_large name

-- a default is a literal without variables
abbrev pub default_answer : (ℕ → InputForm) → List ℕ → ShapeTree → Option ValueTree → Result (Option CoercedTree) Refusal
default_answer form name shape (Some literal) = given_value (variable_refusal name) (fitting (coerced form (literal_given no_variables literal) shape))
default_answer form name shape None = no_value name (is_nullable shape)

-- The value that is given is coerced, null too. Where none is given the default is.
abbrev pub value_answer : (ℕ → InputForm) → Declared → Option Data → Result (Option CoercedTree) Refusal
value_answer form v (Some json) = given_value (variable_refusal v.name) (fitting (coerced form (json_given json) v.shape))
value_answer form v None = default_answer form v.name v.shape v.default

abbrev pub value_held : Option VariableData → Option CoercedTree
value_held None = None
value_held (Some v) = v.value

-- the value of each variable, by its name
abbrev pub values_by_name : List VariableData → Environment
values_by_name values name = value_held (first_of_name (λ v. v.name) values name)

abbrev pub named_answer : List ℕ → Result (Option CoercedTree) Refusal → Result VariableData Refusal
named_answer name (Ok value) = Ok record { name = name; value = value }
named_answer name (Err refusal) = Err refusal

abbrev pub variable_answer : (ℕ → InputForm) → Data → Declared → Result VariableData Refusal
variable_answer form given v = named_answer v.name (value_answer form v (get v.name given))

-- The variables of an operation, in their order. What is given is an object of JSON by their names; other names in it
-- don't matter.
abbrev pub variables_answer : SchemaData → List VariableDef → Data → Result (List VariableData) Refusal
variables_answer s variables given = all_in_order (variable_answer (input_forms s) given) (map (declared_of s) variables)
