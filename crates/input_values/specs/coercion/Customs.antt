-- Values of custom scalars: any value without a variable, whose numbers are whole unless the scalar is lax, and in which no name
-- stands twice in one object. What is refused inside is refused at the place of the scalar.
use Rattle.std.specs.Prelude.{Bool, ◌||◌, Ok, if◌then◌else◌}
use Rattle.gql_base.specs.names.Names.{are_distinct}
use Rattle.input_values.specs.values.Coerced.{CoercedTree, coerced_null, coerced_integer, coerced_float, coerced_string, coerced_boolean, coerced_enum, coerced_list, coerced_object, CoercedTrees, no_coerced, coerced_then, CoercedFields, no_coerced_field, coerced_field_then}
use Rattle.input_values.specs.coercion.Answers.{Answer, refused, mapped, both}
use Rattle.input_values.specs.coercion.Given.{Given, given_null, given_integer, given_float, given_huge, given_string, given_text, given_name, given_boolean, given_list, given_object, given_variable, given_nothing, GivenItems, no_given, given_then, GivenFields, no_given_field, given_field_then, given_names}

abbrev pub any_object : Bool → Answer CoercedFields → Answer CoercedTree
any_object distinct fields = if distinct then mapped coerced_object fields else refused

abbrev mutual
  pub any_value : Bool → Given → Answer CoercedTree
  any_value lax given_null = Ok coerced_null
  any_value lax (given_integer z) = Ok (coerced_integer z)
  any_value lax (given_float bits) = if lax then Ok (coerced_float bits) else refused
  any_value lax given_huge = refused
  any_value lax (given_string s) = Ok (coerced_string s)
  any_value lax (given_text s) = Ok (coerced_string s)
  any_value lax (given_name name) = Ok (coerced_enum name)
  any_value lax (given_boolean b) = Ok (coerced_boolean b)
  any_value lax (given_list items) = mapped coerced_list (any_items lax items)
  any_value lax (given_object distinct fields) = any_object (distinct || are_distinct (given_names fields)) (any_fields lax fields)
  any_value lax (given_variable t) = refused
  any_value lax given_nothing = refused

  pub any_items : Bool → GivenItems → Answer CoercedTrees
  any_items lax no_given = Ok no_coerced
  any_items lax (given_then given others) = both coerced_then (any_value lax given) (any_items lax others)

  pub any_fields : Bool → GivenFields → Answer CoercedFields
  any_fields lax no_given_field = Ok no_coerced_field
  any_fields lax (given_field_then name given others) = both (coerced_field_then name) (any_value lax given) (any_fields lax others)
