-- Literals as given values, beside the values of variables (GraphQL October 2021, 2.9 and 2.10).
use Rattle.std.specs.Prelude.{ℕ, false, List, Option, None, Some, option_map}
use Rattle.gql_base.specs.names.Names.{first_of_name}
use Rattle.gql_base.specs.parts.Values.{ValueTree, variable_value, integer_value, float_value, string_value, boolean_value, null_value, enum_value, list_value, object_value, ValueTrees, no_value, value_then, FieldTrees, no_field, field_then}
use Rattle.input_values.specs.values.Coerced.{CoercedTree, coerced_tree}
use Rattle.input_values.specs.values.Floats.{float_bits}
use Rattle.input_values.specs.declared.coercion.variables.VariableValue.{VariableValue}
use Rattle.input_values.specs.coercion.Given.{Given, given_null, given_integer, bits_given, given_string, given_name, given_boolean, given_list, given_object, given_variable, given_nothing, GivenItems, no_given, given_then, GivenFields, no_given_field, given_field_then}

-- the value of each variable, by its name
abbrev pub Environment : Type 0
Environment = List ℕ → Option CoercedTree

abbrev pub no_variables : Environment
no_variables name = None

abbrev pub value_in : Option VariableValue → Option CoercedTree
value_in None = None
value_in (Some v) = option_map coerced_tree v.value

-- the value of the first of this name
abbrev pub values_of : List VariableValue → Environment
values_of variables name = value_in (first_of_name (λ v. v.name) variables name)

abbrev pub variable_given : Option CoercedTree → Given
variable_given None = given_nothing
variable_given (Some t) = given_variable t

module _ (env : Environment) where
  abbrev mutual
    pub literal_given : ValueTree → Given
    literal_given (variable_value name at) = variable_given (env name)
    literal_given (integer_value z) = given_integer z
    literal_given (float_value digits) = bits_given (float_bits digits)
    literal_given (string_value s) = given_string s
    literal_given (boolean_value b) = given_boolean b
    literal_given null_value = given_null
    literal_given (enum_value name at) = given_name name
    literal_given (list_value items) = given_list (literal_items items)
    literal_given (object_value fields) = given_object false (literal_fields fields)

    pub literal_items : ValueTrees → GivenItems
    literal_items no_value = no_given
    literal_items (value_then v others) = given_then (literal_given v) (literal_items others)

    pub literal_fields : FieldTrees → GivenFields
    literal_fields no_field = no_given_field
    literal_fields (field_then name at v others) = given_field_then name (literal_given v) (literal_fields others)
