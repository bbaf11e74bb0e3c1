-- What serves proofs: the places of the directives that are told of, found once and held by numbers.
use Rattle.std.specs.Prelude.{◌≡◌, ℕ, List, [], ◌∷◌, map, Option, None, Some, Vec, codes}
use Rattle.std.specs.Global.{Global}
use Rattle.gql_base.specs.parts.Arguments.{DirectiveTree}
use Rattle.schema_reader.specs.Schemas.{FieldDefTree, EnumValueTree, BodyTree, scalar_body, object_body, interface_body, enum_body, DefinitionTree}
use Rattle.schema_facts.specs.declared.known.KnownType.{KnownType}
use Rattle.schema_facts.specs.Facts.{KnownTree, built_in, defined, definition_body, known_type, numbers_in}
use Rattle.schema_facts.specs.Deprecations.{place_of}
use Rattle.schema_facts.specs.Table.{field_directives, value_directives, definition_directives}

abbrev pub field_place : FieldDefTree → ℕ
field_place f = place_of (codes "deprecated") (field_directives f)

abbrev pub value_place : EnumValueTree → ℕ
value_place v = place_of (codes "deprecated") (value_directives v)

-- of each field or value the place of `@deprecated`, and of a scalar that of `@specifiedBy`
abbrev pub places_by : List DirectiveTree → BodyTree → List ℕ
places_by directives (object_body interfaces fields) = map field_place fields
places_by directives (interface_body interfaces fields) = map field_place fields
places_by directives (enum_body values) = map value_place values
places_by directives scalar_body = place_of (codes "specifiedBy") directives ∷ []
places_by directives other = []

abbrev pub places_in : Option DefinitionTree → List ℕ
places_in None = []
places_in (Some d) = places_by (definition_directives d) (definition_body d)

abbrev pub places_of : KnownTree → List ℕ
places_of (built_in name) = []
places_of (defined d) = places_in (Some d)

-- These places of each type stand in a list.
abbrev pub KnowsPlaces : List (Vec ℕ Global) → List KnownType → Type 0
KnowsPlaces places types = map numbers_in places ≡ map places_of (map known_type types)
