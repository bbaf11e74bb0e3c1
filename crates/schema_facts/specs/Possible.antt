-- What serves proofs: possible types, found in one pass over the types.
use Rattle.std.specs.Prelude.{ℕ, ◌+◌, Bool, false, nat_eq, List, [], ◌∷◌, map, get_or, if◌then◌else◌}
use Rattle.std.specs.List.{list_any}
use Rattle.schema_reader.specs.Schemas.{NameText, BodyTree, object_body, interface_body, union_body}
use Rattle.schema_facts.specs.Facts.{KnownTree, built_in, defined, definition_name, definition_body, known_name, is_object_body, number_named}

abbrev pub list_at : List (List ℕ) → ℕ → List ℕ
list_at lists place = get_or lists place []

-- the numbers of the lists that hold a number, where the first has the number n
abbrev pub lists_with : ℕ → ℕ → List (List ℕ) → List ℕ
lists_with n held [] = []
lists_with n held (l ∷ lists) = if list_any (nat_eq held) l then n ∷ lists_with (n + 1) held lists else lists_with (n + 1) held lists

abbrev pub interfaces_in : BodyTree → List NameText
interfaces_in (object_body interfaces fields) = interfaces
interfaces_in other = []

abbrev pub interfaces_of : KnownTree → List NameText
interfaces_of (built_in name) = []
interfaces_of (defined d) = interfaces_in (definition_body d)

abbrev pub members_in : BodyTree → List NameText
members_in (union_body members) = members
members_in other = []

abbrev pub members_of : KnownTree → List NameText
members_of (built_in name) = []
members_of (defined d) = members_in (definition_body d)

abbrev pub is_object : KnownTree → Bool
is_object (built_in name) = false
is_object (defined d) = is_object_body (definition_body d)

-- the numbers of the interfaces that an object type implements, and of a union's members
abbrev pub implemented : List KnownTree → KnownTree → List ℕ
implemented types t = map (number_named types) (interfaces_of t)

abbrev pub joined : List KnownTree → KnownTree → List ℕ
joined types t = map (number_named types) (members_of t)

-- the unions that an object type is a member of
abbrev pub joining : List KnownTree → List (List ℕ) → KnownTree → List ℕ
joining types unions t = if is_object t then list_at unions (number_named types (known_name t)) else []

abbrev pub found_in : List KnownTree → List (List ℕ) → List (List ℕ) → ℕ → NameText → BodyTree → List ℕ
found_in types implementing members n name (interface_body interfaces fields) = list_at implementing (number_named types name)
found_in types implementing members n name (union_body of) = list_at members n
found_in types implementing members n name other = []

-- the possible types of a type of the number n
abbrev pub found_of : List KnownTree → List (List ℕ) → List (List ℕ) → ℕ → KnownTree → List ℕ
found_of types implementing members n (built_in name) = []
found_of types implementing members n (defined d) = found_in types implementing members n (definition_name d) (definition_body d)

abbrev pub found_from : List KnownTree → List (List ℕ) → List (List ℕ) → ℕ → List KnownTree → List (List ℕ)
found_from types implementing members n [] = []
found_from types implementing members n (t ∷ others) = found_of types implementing members n t ∷ found_from types implementing members (n + 1) others
