-- What serves proofs: what of a type isn't deprecated, found once and held by its numbers.
use Rattle.std.specs.Prelude.{◌≡◌, ℕ, Bool, not, List, [], ◌∷◌, map, Option, None, Some, Vec, slice_get, if◌then◌else◌}
use Rattle.std.specs.Global.{Global}
use Rattle.schema_reader.specs.Schemas.{FieldDefTree, EnumValueTree, BodyTree, object_body, interface_body, enum_body}
use Rattle.schema_facts.specs.declared.known.KnownType.{KnownType}
use Rattle.schema_facts.specs.Facts.{KnownTree, built_in, defined, definition_body, known_type, numbers_from, numbers_in}
use Rattle.schema_facts.specs.Deprecations.{is_deprecated}
use Rattle.schema_facts.specs.Things.{ThingData, a_field, an_enum_value, HeldData, nothing, many}
use Rattle.schema_facts.specs.Table.{field_directives, value_directives}

abbrev pub is_shown_field : FieldDefTree → Bool
is_shown_field f = not (is_deprecated (field_directives f))

abbrev pub is_shown_value : EnumValueTree → Bool
is_shown_value v = not (is_deprecated (value_directives v))

-- the numbers of the fields or values that aren't deprecated
abbrev pub shown_in : BodyTree → List ℕ
shown_in (object_body interfaces fields) = numbers_from 0 is_shown_field fields
shown_in (interface_body interfaces fields) = numbers_from 0 is_shown_field fields
shown_in (enum_body values) = numbers_from 0 is_shown_value values
shown_in other = []

abbrev pub shown_of : KnownTree → List ℕ
shown_of (built_in name) = []
shown_of (defined d) = shown_in (definition_body d)

-- What isn't deprecated of each type stands in a list.
abbrev pub KnowsShown : List (Vec ℕ Global) → List KnownType → Type 0
KnowsShown shown types = map numbers_in shown ≡ map shown_of (map known_type types)

-- ---- what is shown, by these numbers

abbrev pub with_thing : {A : Type 0} → (A → ThingData) → Option A → List ThingData → List ThingData
with_thing thing None others = others
with_thing thing (Some x) others = thing x ∷ others

-- the things of these numbers
abbrev pub picked : {A : Type 0} → (A → ThingData) → List A → List ℕ → List ThingData
picked thing of [] = []
picked thing of (n ∷ numbers) = with_thing thing (slice_get of n) (picked thing of numbers)

-- all, or those of these numbers
abbrev pub shown_by : {A : Type 0} → (A → ThingData) → Bool → List ℕ → List A → List ThingData
shown_by thing all numbers of = if all then map thing of else picked thing of numbers

abbrev pub fields_by : Bool → List ℕ → BodyTree → HeldData
fields_by all numbers (object_body interfaces fields) = many (shown_by a_field all numbers fields)
fields_by all numbers (interface_body interfaces fields) = many (shown_by a_field all numbers fields)
fields_by all numbers other = nothing

abbrev pub values_by : Bool → List ℕ → BodyTree → HeldData
values_by all numbers (enum_body values) = many (shown_by an_enum_value all numbers values)
values_by all numbers other = nothing
