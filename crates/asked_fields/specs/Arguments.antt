-- What is kept of a field's arguments: of the first of them, whether it is true, and which name it is.
use Rattle.std.specs.Prelude.{ℕ, Bool, false, List, [], ◌∷◌, Option, None, Some}
use Rattle.input_values.specs.values.Coerced.{CoercedTree, coerced_null, coerced_integer, coerced_float, coerced_string, coerced_boolean, coerced_enum, coerced_list, coerced_object}
use Rattle.schema_model.specs.Arguments.{ArgData}
use Rattle.asked_fields.specs.declared.asked.Argument.{Argument}

-- what the first argument comes to, if there is one
abbrev pub first_value : List ArgData → Option CoercedTree
first_value [] = None
first_value (a ∷ args) = a.value

abbrev pub is_true_value : Option CoercedTree → Bool
is_true_value None = false
is_true_value (Some (coerced_boolean b)) = b
is_true_value (Some coerced_null) = false
is_true_value (Some (coerced_integer z)) = false
is_true_value (Some (coerced_float z)) = false
is_true_value (Some (coerced_string s)) = false
is_true_value (Some (coerced_enum name)) = false
is_true_value (Some (coerced_list items)) = false
is_true_value (Some (coerced_object fields)) = false

-- `place` says where a name stands.
abbrev pub place_of_value : (List ℕ → Option ℕ) → Option CoercedTree → Option ℕ
place_of_value place None = None
place_of_value place (Some (coerced_string name)) = place name
place_of_value place (Some coerced_null) = None
place_of_value place (Some (coerced_integer z)) = None
place_of_value place (Some (coerced_float z)) = None
place_of_value place (Some (coerced_boolean b)) = None
place_of_value place (Some (coerced_enum name)) = None
place_of_value place (Some (coerced_list items)) = None
place_of_value place (Some (coerced_object fields)) = None

abbrev pub argument_kept : (List ℕ → Option ℕ) → List ArgData → Argument
argument_kept place args = record { is_true = is_true_value (first_value args); place = place_of_value place (first_value args) }
