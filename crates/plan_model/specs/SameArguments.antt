-- When the arguments of two fields are equal: by their coerced values, argument by argument. What is absent differs from null,
-- and whether a value is supplied doesn't matter. The fields of an object count in their order.
use Rattle.std.specs.Prelude.{nat_eq, Bool, true, false, not, ◌&&◌, List, [], ◌∷◌, Option, None, Some}
use Rattle.std.specs.Str.{bytes_eq}
use Rattle.std.specs.Ordering.{int_eq}
use Rattle.input_values.specs.values.Coerced.{CoercedTree, CoercedTrees, CoercedFields, coerced_null, coerced_integer, coerced_float, coerced_string, coerced_boolean, coerced_enum, coerced_list, coerced_object, no_coerced, coerced_then, no_coerced_field, coerced_field_then}
use Rattle.schema_model.specs.Arguments.{ArgData}

abbrev pub same_truth : Bool → Bool → Bool
same_truth true other = other
same_truth false other = not other

unfoldable mutual
  pub same_value : CoercedTree → CoercedTree → Bool
  same_value coerced_null coerced_null = true
  same_value (coerced_integer z) (coerced_integer other) = int_eq z other
  same_value (coerced_float bits) (coerced_float other) = nat_eq bits other
  same_value (coerced_string s) (coerced_string other) = bytes_eq s other
  same_value (coerced_boolean b) (coerced_boolean other) = same_truth b other
  same_value (coerced_enum name) (coerced_enum other) = bytes_eq name other
  same_value (coerced_list items) (coerced_list others) = same_items items others
  same_value (coerced_object fields) (coerced_object others) = same_fields fields others
  same_value value other = false

  pub same_items : CoercedTrees → CoercedTrees → Bool
  same_items no_coerced no_coerced = true
  same_items (coerced_then value items) (coerced_then other others) = same_value value other && same_items items others
  same_items items others = false

  pub same_fields : CoercedFields → CoercedFields → Bool
  same_fields no_coerced_field no_coerced_field = true
  same_fields (coerced_field_then name value fields) (coerced_field_then other_name other others) = bytes_eq name other_name && (same_value value other && same_fields fields others)
  same_fields fields others = false

abbrev pub same_argument : Option CoercedTree → Option CoercedTree → Bool
same_argument None None = true
same_argument (Some value) (Some other) = same_value value other
same_argument value other = false

abbrev pub value_of : ArgData → Option CoercedTree
value_of arg = arg.value

abbrev pub same_arguments : List ArgData → List ArgData → Bool
same_arguments [] [] = true
same_arguments (arg ∷ args) (other ∷ others) = same_argument arg.value other.value && same_arguments args others
same_arguments args others = false
