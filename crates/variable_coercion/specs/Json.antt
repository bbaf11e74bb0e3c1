-- JSON values as what is given for input types. A number that isn't held as a whole one is given by the bits of its double, a string
-- may be the name of an enum value too, and an object has each name once.
use Rattle.std.specs.Prelude.{ℕ, ℤ, true, Option, Some, None}
use Rattle.serde_json.specs.Data.{Num, Data, null, boolean, number, string, array, object, Items, no_items, item, Members, no_members, member}
use Rattle.serde_json.specs.Find.{as_integer, to_float}
use Rattle.input_values.specs.values.Floats.{finite_bits}
use Rattle.input_values.specs.coercion.Given.{Given, given_null, given_integer, bits_given, given_text, given_boolean, given_list, given_object, GivenItems, no_given, given_then, GivenFields, no_given_field, given_field_then}

abbrev pub number_by : Option ℤ → Option ℕ → Given
number_by (Some z) bits = given_integer z
number_by None bits = bits_given bits

abbrev pub number_given : Num → Given
number_given n = number_by (as_integer n) (finite_bits (to_float n))

abbrev mutual
  pub json_given : Data → Given
  json_given null = given_null
  json_given (boolean b) = given_boolean b
  json_given (number n) = number_given n
  json_given (string s) = given_text s
  json_given (array items) = given_list (json_items items)
  json_given (object members) = given_object true (json_members members)

  pub json_items : Items → GivenItems
  json_items no_items = no_given
  json_items (item d others) = given_then (json_given d) (json_items others)

  pub json_members : Members → GivenFields
  json_members no_members = no_given_field
  json_members (member name d others) = given_field_then name (json_given d) (json_members others)
