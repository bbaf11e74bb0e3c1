-- What the cost directives say where they are applied (IBM GraphQL Cost Directives Specification), and `@floats`, which has no
-- arguments and lets a scalar hold numbers that aren't whole. `@cost(weight: String!)` and `@listSize(assumedSize: Int, slicingArguments: [String!], sizedFields: [String!],
-- requireOneSlicingArgument: Boolean = true)`. A null for an optional argument is none, a single string is a list of one.
use Rattle.std.specs.Prelude.{ℕ, Bool, true, false, not, ◌&&◌, List, [], ◌∷◌, map, Option, None, Some, codes, if◌then◌else◌}
use Rattle.std.specs.List.{list_all, list_any}
use Rattle.std.specs.Str.{bytes_eq}
use Rattle.gql_base.specs.names.Names.{are_distinct}
use Rattle.gql_base.specs.parts.Values.{ValueTree, ValueTrees, no_value, value_then, variable_value, integer_value, float_value, string_value, boolean_value, null_value, enum_value, list_value, object_value, NamedValue}
use Rattle.gql_base.specs.parts.Arguments.{DirectiveTree}
use Rattle.gql_base.specs.parts.Ints.{is_int}

abbrev pub directive_name : DirectiveTree → List ℕ
directive_name d = d.0.0

abbrev pub argument_name : NamedValue → List ℕ
argument_name a = a.0.0

-- ---- single values

abbrev pub string_in : ValueTree → Option (List ℕ)
string_in (string_value s) = Some s
string_in (variable_value name at) = None
string_in (integer_value n) = None
string_in (float_value digits) = None
string_in (boolean_value b) = None
string_in null_value = None
string_in (enum_value name at) = None
string_in (list_value values) = None
string_in (object_value fields) = None

abbrev pub is_string : ValueTree → Bool
is_string (string_value s) = true
is_string (variable_value name at) = false
is_string (integer_value n) = false
is_string (float_value digits) = false
is_string (boolean_value b) = false
is_string null_value = false
is_string (enum_value name at) = false
is_string (list_value values) = false
is_string (object_value fields) = false

abbrev pub is_maybe_int : ValueTree → Bool
is_maybe_int (integer_value n) = is_int n
is_maybe_int (float_value digits) = false
is_maybe_int null_value = true
is_maybe_int (string_value s) = false
is_maybe_int (variable_value name at) = false
is_maybe_int (boolean_value b) = false
is_maybe_int (enum_value name at) = false
is_maybe_int (list_value values) = false
is_maybe_int (object_value fields) = false

abbrev pub is_maybe_boolean : ValueTree → Bool
is_maybe_boolean (boolean_value b) = true
is_maybe_boolean null_value = true
is_maybe_boolean (integer_value n) = false
is_maybe_boolean (float_value digits) = false
is_maybe_boolean (string_value s) = false
is_maybe_boolean (variable_value name at) = false
is_maybe_boolean (enum_value name at) = false
is_maybe_boolean (list_value values) = false
is_maybe_boolean (object_value fields) = false

unfoldable pub are_strings : ValueTrees → Bool
are_strings no_value = true
are_strings (value_then v others) = is_string v && are_strings others

abbrev pub are_maybe_strings : ValueTree → Bool
are_maybe_strings (string_value s) = true
are_maybe_strings null_value = true
are_maybe_strings (list_value values) = are_strings values
are_maybe_strings (integer_value n) = false
are_maybe_strings (float_value digits) = false
are_maybe_strings (variable_value name at) = false
are_maybe_strings (boolean_value b) = false
are_maybe_strings (enum_value name at) = false
are_maybe_strings (object_value fields) = false

-- ---- the arguments of one directive

-- the weight that an argument gives
abbrev pub one_weight : NamedValue → Option (List ℕ)
one_weight a = if bytes_eq (argument_name a) (codes "weight") then string_in a.1 else None

-- the weight that `@cost` has, where its arguments are right
abbrev pub weight_text : List NamedValue → Option (List ℕ)
weight_text [] = None
weight_text (a ∷ []) = one_weight a
weight_text (a ∷ (b ∷ others)) = None

-- whether `@listSize` has such an argument, and it may have this value
abbrev pub fits_size : List ℕ → ValueTree → Bool
fits_size name v =
    if bytes_eq name (codes "assumedSize") then is_maybe_int v
    else if bytes_eq name (codes "slicingArguments") then are_maybe_strings v
    else if bytes_eq name (codes "sizedFields") then are_maybe_strings v
    else if bytes_eq name (codes "requireOneSlicingArgument") then is_maybe_boolean v
    else false

abbrev pub is_size_argument : NamedValue → Bool
is_size_argument a = fits_size (argument_name a) a.1

-- whether the arguments of `@listSize` are right
abbrev pub are_size_arguments : List NamedValue → Bool
are_size_arguments arguments = list_all is_size_argument arguments && are_distinct (map argument_name arguments)

-- ---- the directives of one place

abbrev pub is_some_text : Option (List ℕ) → Bool
is_some_text None = false
is_some_text (Some s) = true

abbrev pub has_no_argument : List NamedValue → Bool
has_no_argument [] = true
has_no_argument (a ∷ others) = false

-- whether a directive is right where `@cost`, `@listSize` or `@floats` may stand, or not
abbrev pub is_right : Bool → Bool → Bool → DirectiveTree → Bool
is_right may_cost may_size may_float d =
    if bytes_eq (directive_name d) (codes "cost") then may_cost && is_some_text (weight_text d.1)
    else if bytes_eq (directive_name d) (codes "listSize") then may_size && are_size_arguments d.1
    else if bytes_eq (directive_name d) (codes "floats") then may_float && has_no_argument d.1
    else true

abbrev pub is_use_of : List ℕ → DirectiveTree → Bool
is_use_of name d = bytes_eq (directive_name d) name

-- whether a directive stands there once at most
abbrev pub is_rare : List ℕ → List DirectiveTree → Bool
is_rare name [] = true
is_rare name (d ∷ ds) = if is_use_of name d then not (list_any (is_use_of name) ds) else is_rare name ds

abbrev pub are_right : Bool → Bool → Bool → List DirectiveTree → Bool
are_right may_cost may_size may_float ds =
    list_all (is_right may_cost may_size may_float) ds && (is_rare (codes "cost") ds && (is_rare (codes "listSize") ds && is_rare (codes "floats") ds))

-- whether `@floats` is one of these
abbrev pub is_lax : List DirectiveTree → Bool
is_lax ds = list_any (is_use_of (codes "floats")) ds

-- the text of the weight that the first `@cost` has
abbrev pub given_weight : List DirectiveTree → Option (List ℕ)
given_weight [] = None
given_weight (d ∷ ds) = if is_use_of (codes "cost") d then weight_text d.1 else given_weight ds

-- the arguments of the first `@listSize`
abbrev pub size_arguments : List DirectiveTree → Option (List NamedValue)
size_arguments [] = None
size_arguments (d ∷ ds) = if is_use_of (codes "listSize") d then Some d.1 else size_arguments ds
