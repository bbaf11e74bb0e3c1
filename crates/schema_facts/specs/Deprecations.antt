-- What the directives `@deprecated` and `@specifiedBy` say (GraphQL October 2021, 3.13.3 and 3.13.4). Of repeated directives
-- and arguments the first counts.
use Rattle.std.specs.Prelude.{ℕ, ◌+◌, Bool, List, [], ◌∷◌, Option, None, Some, is_some, codes, if◌then◌else◌}
use Rattle.std.specs.Str.{bytes_eq}
use Rattle.gql_base.specs.parts.Values.{ValueTree, NamedValue, variable_value, integer_value, float_value, string_value, boolean_value, null_value, enum_value, list_value, object_value}
use Rattle.gql_base.specs.parts.Arguments.{DirectiveTree}
use Rattle.schema_rules.specs.First.{or_else}

-- the arguments of the first directive of this name
abbrev pub arguments_of : List ℕ → List DirectiveTree → Option (List NamedValue)
arguments_of name [] = None
arguments_of name (d ∷ directives) = if bytes_eq d.0.0 name then Some d.1 else arguments_of name directives

-- the place of the first directive of this name where the first of all has the place n, or that behind the last where none has it
abbrev pub place_from : ℕ → List ℕ → List DirectiveTree → ℕ
place_from n name [] = n
place_from n name (d ∷ directives) = if bytes_eq d.0.0 name then n else place_from (n + 1) name directives

abbrev pub place_of : List ℕ → List DirectiveTree → ℕ
place_of name directives = place_from 0 name directives

abbrev pub arguments_in : Option DirectiveTree → Option (List NamedValue)
arguments_in None = None
arguments_in (Some d) = Some d.1

abbrev pub value_if : List ℕ → NamedValue → Option ValueTree
value_if name a = if bytes_eq a.0.0 name then Some a.1 else None

-- the value of the first argument of this name
abbrev pub value_of_argument : List ℕ → List NamedValue → Option ValueTree
value_of_argument name [] = None
value_of_argument name (a ∷ arguments) = or_else (value_if name a) (value_of_argument name arguments)

-- the string that a value is
abbrev pub string_of : ValueTree → Option (List ℕ)
string_of (string_value text) = Some text
string_of (variable_value name at) = None
string_of (integer_value n) = None
string_of (float_value n) = None
string_of (boolean_value b) = None
string_of null_value = None
string_of (enum_value name at) = None
string_of (list_value values) = None
string_of (object_value fields) = None

abbrev pub is_deprecated : List DirectiveTree → Bool
is_deprecated directives = is_some (arguments_of (codes "deprecated") directives)

abbrev pub reason_told : Option ValueTree → Option (List ℕ)
reason_told None = Some (codes "No longer supported")
reason_told (Some value) = string_of value

abbrev pub reason_in : List NamedValue → Option (List ℕ)
reason_in arguments = reason_told (value_of_argument (codes "reason") arguments)

abbrev pub reason_if : Option (List NamedValue) → Option (List ℕ)
reason_if None = None
reason_if (Some arguments) = reason_in arguments

-- why a thing with these directives is deprecated
abbrev pub reason_of : List DirectiveTree → Option (List ℕ)
reason_of directives = reason_if (arguments_of (codes "deprecated") directives)

abbrev pub url_told : Option ValueTree → Option (List ℕ)
url_told None = None
url_told (Some value) = string_of value

abbrev pub url_in : List NamedValue → Option (List ℕ)
url_in arguments = url_told (value_of_argument (codes "url") arguments)

abbrev pub url_if : Option (List NamedValue) → Option (List ℕ)
url_if None = None
url_if (Some arguments) = url_in arguments

-- where a scalar with these directives is specified
abbrev pub url_of : List DirectiveTree → Option (List ℕ)
url_of directives = url_if (arguments_of (codes "specifiedBy") directives)
