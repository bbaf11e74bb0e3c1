-- What is compared of two coerced lists or objects.
use Rattle.std.specs.Prelude.{Bool, ◌&&◌, Option, None, Some}
use Rattle.std.specs.Str.{bytes_eq}
use Rattle.input_values.specs.values.Coerced.{CoercedTree, CoercedTrees, CoercedFields, coerced_null, coerced_integer, coerced_float, coerced_string, coerced_boolean, coerced_enum, coerced_list, coerced_object, NamedTree}
use Rattle.plan_model.specs.SameArguments.{same_value}

abbrev pub same_named : NamedTree → NamedTree → Bool
same_named f other = bytes_eq f.0 other.0 && same_value f.1 other.1

-- the items of a list
abbrev pub items_in : CoercedTree → Option CoercedTrees
items_in (coerced_list items) = Some items
items_in (coerced_object fields) = None
items_in coerced_null = None
items_in (coerced_integer z) = None
items_in (coerced_float z) = None
items_in (coerced_string s) = None
items_in (coerced_boolean b) = None
items_in (coerced_enum name) = None

-- the fields of an object
abbrev pub fields_in : CoercedTree → Option CoercedFields
fields_in (coerced_object fields) = Some fields
fields_in (coerced_list items) = None
fields_in coerced_null = None
fields_in (coerced_integer z) = None
fields_in (coerced_float z) = None
fields_in (coerced_string s) = None
fields_in (coerced_boolean b) = None
fields_in (coerced_enum name) = None
