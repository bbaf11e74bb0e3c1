-- What each field of the schema of schemas gives (GraphQL October 2021, 4.2). The table is total: what isn't of a thing is
-- held nothing of, and at a number that is no type's it answers as at a scalar without name.
use Rattle.std.specs.Prelude.{ℕ, ◌+◌, Bool, false, ◌||◌, not, List, [], ◌∷◌, map, Option, Some, None, codes, slice_get, if◌then◌else◌}
use Rattle.std.specs.List.{list_any}
use Rattle.std.specs.Str.{bytes_eq}
use Rattle.gql_base.specs.parts.Values.{ValueTree}
use Rattle.gql_base.specs.parts.Arguments.{DirectiveTree}
use Rattle.gql_base.specs.parts.TypeReferences.{TypeTree as ReferenceTree}
use Rattle.schema_reader.specs.Schemas.{NameText, InputDefTree, FieldDefTree, EnumValueTree, BodyTree, schema_body, scalar_body, object_body, interface_body, union_body, enum_body, input_body, directive_body, DefinitionTree}
use Rattle.schema_rules.specs.Items.{input_name, input_type}
use Rattle.schema_facts.specs.declared.table.What.{What}
use Rattle.schema_facts.specs.declared.table.What.TheVariants as what
use Rattle.schema_facts.specs.Facts.{KnownTree, built_in, defined, FactsData, known_name, definition_name, definition_body, number_named, possible_types}
use Rattle.schema_facts.specs.Deprecations.{is_deprecated, reason_of, url_of}
use Rattle.schema_facts.specs.Things.{ThingData, the_root, the_schema, a_type, a_list_type, a_non_null_type, a_field, an_input, an_enum_value, a_directive, a_word, a_flag, a_default, HeldData, nothing, one, many, word, maybe_word, type_thing}

-- ---- parts of definitions

abbrev pub definition_directives : DefinitionTree → List DirectiveTree
definition_directives d = d.1.1

abbrev pub field_name : FieldDefTree → NameText
field_name f = f.1

abbrev pub field_arguments : FieldDefTree → List InputDefTree
field_arguments f = f.2

abbrev pub field_type : FieldDefTree → ReferenceTree
field_type f = f.3

abbrev pub field_directives : FieldDefTree → List DirectiveTree
field_directives f = f.4

abbrev pub input_default : InputDefTree → Option ValueTree
input_default v = v.3

abbrev pub value_name : EnumValueTree → NameText
value_name v = v.1.0

abbrev pub value_directives : EnumValueTree → List DirectiveTree
value_directives v = v.1.1

-- ---- types by their numbers

abbrev pub known_at : FactsData → ℕ → Option KnownTree
known_at f number = slice_get f.types number

abbrev pub definition_in : Option KnownTree → Option DefinitionTree
definition_in None = None
definition_in (Some (built_in name)) = None
definition_in (Some (defined d)) = Some d

-- the definition of the type of a number
abbrev pub definition_at : FactsData → ℕ → Option DefinitionTree
definition_at f number = definition_in (known_at f number)

abbrev pub types_from : ℕ → List KnownTree → List ThingData
types_from n [] = []
types_from n (t ∷ types) = a_type n ∷ types_from (n + 1) types

abbrev pub maybe_type : Option ℕ → HeldData
maybe_type None = nothing
maybe_type (Some number) = one (a_type number)

-- ---- a row each

-- the name of the object type that a thing is of
abbrev pub type_name : FactsData → ThingData → List ℕ
type_name f the_root = f.query_name
type_name f the_schema = codes "__Schema"
type_name f (a_type number) = codes "__Type"
type_name f (a_list_type of) = codes "__Type"
type_name f (a_non_null_type of) = codes "__Type"
type_name f (a_field field) = codes "__Field"
type_name f (an_input v) = codes "__InputValue"
type_name f (an_enum_value v) = codes "__EnumValue"
type_name f (a_directive d) = codes "__Directive"
type_name f (a_word text) = []
type_name f (a_flag is) = []
type_name f (a_default value) = []

abbrev pub described : Option DefinitionTree → HeldData
described None = nothing
described (Some d) = maybe_word d.0

abbrev pub description : FactsData → ThingData → HeldData
description f the_schema = maybe_word f.description
description f (a_type number) = described (definition_at f number)
description f (a_field field) = maybe_word field.0
description f (an_input v) = maybe_word v.0
description f (an_enum_value v) = maybe_word v.0
description f (a_directive d) = maybe_word d.0
description f other = nothing

abbrev pub kind_word : BodyTree → List ℕ
kind_word scalar_body = codes "SCALAR"
kind_word (object_body interfaces fields) = codes "OBJECT"
kind_word (interface_body interfaces fields) = codes "INTERFACE"
kind_word (union_body members) = codes "UNION"
kind_word (enum_body values) = codes "ENUM"
kind_word (input_body fields) = codes "INPUT_OBJECT"
kind_word (schema_body roots) = codes "SCALAR"
kind_word (directive_body arguments repeatable locations) = codes "SCALAR"

abbrev pub kind_of_type : Option DefinitionTree → HeldData
kind_of_type None = word (codes "SCALAR")
kind_of_type (Some d) = word (kind_word (definition_body d))

abbrev pub kind : FactsData → ThingData → HeldData
kind f (a_type number) = kind_of_type (definition_at f number)
kind f (a_list_type of) = word (codes "LIST")
kind f (a_non_null_type of) = word (codes "NON_NULL")
kind f other = nothing

abbrev pub name_of_type : Option KnownTree → HeldData
name_of_type None = nothing
name_of_type (Some t) = word (known_name t)

abbrev pub name : FactsData → ThingData → HeldData
name f (a_type number) = name_of_type (known_at f number)
name f (a_field field) = word (field_name field)
name f (an_input v) = word (input_name v)
name f (an_enum_value v) = word (value_name v)
name f (a_directive d) = word (definition_name d)
name f other = nothing

-- the fields that are shown: all, or those that aren't deprecated
abbrev pub shown_fields : Bool → List FieldDefTree → List ThingData
shown_fields all [] = []
shown_fields all (v ∷ others) = if all || not (is_deprecated (field_directives v)) then a_field v ∷ shown_fields all others else shown_fields all others

abbrev pub fields_in : Bool → BodyTree → HeldData
fields_in all (object_body interfaces fields) = many (shown_fields all fields)
fields_in all (interface_body interfaces fields) = many (shown_fields all fields)
fields_in all other = nothing

abbrev pub interfaces_in : FactsData → BodyTree → HeldData
interfaces_in f (object_body interfaces fields) = many (map (λ of. a_type (number_named f.types of)) interfaces)
interfaces_in f (interface_body interfaces fields) = many (map (λ of. a_type (number_named f.types of)) interfaces)
interfaces_in f other = nothing

abbrev pub shown_values : Bool → List EnumValueTree → List ThingData
shown_values all [] = []
shown_values all (v ∷ others) = if all || not (is_deprecated (value_directives v)) then an_enum_value v ∷ shown_values all others else shown_values all others

abbrev pub values_in : Bool → BodyTree → HeldData
values_in all (enum_body values) = many (shown_values all values)
values_in all other = nothing

abbrev pub inputs_in : BodyTree → HeldData
inputs_in (input_body fields) = many (map an_input fields)
inputs_in other = nothing

-- what stands in the body of a type that is defined
abbrev pub in_body : (BodyTree → HeldData) → Option DefinitionTree → HeldData
in_body part None = nothing
in_body part (Some d) = part (definition_body d)

abbrev pub of_body : FactsData → (BodyTree → HeldData) → ThingData → HeldData
of_body f part (a_type number) = in_body part (definition_at f number)
of_body f part other = nothing

abbrev pub possible_if : BodyTree → List ℕ → Option (List ℕ)
possible_if (interface_body interfaces fields) numbers = Some numbers
possible_if (union_body members) numbers = Some numbers
possible_if other numbers = None

abbrev pub possible_in : List KnownTree → Option DefinitionTree → Option (List ℕ)
possible_in types None = None
possible_in types (Some d) = possible_if (definition_body d) (possible_types types (defined d))

-- the numbers of the possible types of the type of a number, if it is one that has them
abbrev pub possible_at : FactsData → ℕ → Option (List ℕ)
possible_at f number = possible_in f.types (definition_at f number)

abbrev pub possible_held : Option (List ℕ) → HeldData
possible_held None = nothing
possible_held (Some numbers) = many (map a_type numbers)

abbrev pub possible : FactsData → ThingData → HeldData
possible f (a_type number) = possible_held (possible_at f number)
possible f other = nothing

-- a type without what stands around it
abbrev pub of_type : FactsData → ThingData → HeldData
of_type f (a_list_type of) = one (type_thing f of)
of_type f (a_non_null_type of) = one (type_thing f of)
of_type f other = nothing

abbrev pub url_by : List DirectiveTree → BodyTree → HeldData
url_by directives scalar_body = maybe_word (url_of directives)
url_by directives other = nothing

abbrev pub url_in : Option DefinitionTree → HeldData
url_in None = nothing
url_in (Some d) = url_by (definition_directives d) (definition_body d)

abbrev pub specified_by : FactsData → ThingData → HeldData
specified_by f (a_type number) = url_in (definition_at f number)
specified_by f other = nothing

abbrev pub directive_arguments : BodyTree → List InputDefTree
directive_arguments (directive_body arguments repeatable locations) = arguments
directive_arguments other = []

abbrev pub arguments : ThingData → HeldData
arguments (a_field field) = many (map an_input (field_arguments field))
arguments (a_directive d) = many (map an_input (directive_arguments (definition_body d)))
arguments other = nothing

abbrev pub type_of : FactsData → ThingData → HeldData
type_of f (a_field field) = one (type_thing f (field_type field))
type_of f (an_input v) = one (type_thing f (input_type v))
type_of f other = nothing

abbrev pub deprecated : ThingData → HeldData
deprecated (a_field field) = one (a_flag (is_deprecated (field_directives field)))
deprecated (an_enum_value v) = one (a_flag (is_deprecated (value_directives v)))
deprecated other = nothing

abbrev pub reason : ThingData → HeldData
reason (a_field field) = maybe_word (reason_of (field_directives field))
reason (an_enum_value v) = maybe_word (reason_of (value_directives v))
reason other = nothing

abbrev pub maybe_default : Option ValueTree → HeldData
maybe_default None = nothing
maybe_default (Some value) = one (a_default value)

abbrev pub default_of : ThingData → HeldData
default_of (an_input v) = maybe_default (input_default v)
default_of other = nothing

-- the places at which a directive may stand (GraphQL October 2021, 3.13)
abbrev pub executable_locations : List NameText
executable_locations =
    codes "QUERY" ∷ codes "MUTATION" ∷ codes "SUBSCRIPTION" ∷ codes "FIELD" ∷ codes "FRAGMENT_DEFINITION" ∷ codes "FRAGMENT_SPREAD" ∷ codes "INLINE_FRAGMENT"
    ∷ codes "VARIABLE_DEFINITION" ∷ []

abbrev pub type_system_locations : List NameText
type_system_locations =
    codes "SCHEMA" ∷ codes "SCALAR" ∷ codes "OBJECT" ∷ codes "FIELD_DEFINITION" ∷ codes "ARGUMENT_DEFINITION" ∷ codes "INTERFACE" ∷ codes "UNION" ∷ codes "ENUM"
    ∷ codes "ENUM_VALUE" ∷ codes "INPUT_OBJECT" ∷ codes "INPUT_FIELD_DEFINITION" ∷ []

abbrev pub is_location : NameText → Bool
is_location name = list_any (bytes_eq name) executable_locations || list_any (bytes_eq name) type_system_locations

abbrev pub location_words : List NameText → List ThingData
location_words [] = []
location_words (of ∷ others) = if is_location of then a_word of ∷ location_words others else location_words others

abbrev pub locations_in : BodyTree → List ThingData
locations_in (directive_body arguments repeatable locations) = location_words locations
locations_in other = []

abbrev pub locations : ThingData → HeldData
locations (a_directive d) = many (locations_in (definition_body d))
locations other = nothing

abbrev pub repeatable_in : BodyTree → Bool
repeatable_in (directive_body arguments repeatable locations) = repeatable
repeatable_in other = false

abbrev pub repeatable : ThingData → HeldData
repeatable (a_directive d) = one (a_flag (repeatable_in (definition_body d)))
repeatable other = nothing

-- what a field of the schema of schemas holds at a thing
unfoldable pub held : FactsData → ThingData → What → HeldData
held f x what.TypeName = word (type_name f x)
held f x what.Schema = one the_schema
held f x (what.Named of) = maybe_type of
held f x what.Description = description f x
held f x what.Types = many (types_from 0 f.types)
held f x what.QueryType = one (a_type f.query)
held f x what.MutationType = maybe_type f.mutation
held f x what.SubscriptionType = maybe_type f.subscription
held f x what.Directives = many (map a_directive f.directives)
held f x what.Kind = kind f x
held f x what.Name = name f x
held f x (what.Fields all) = of_body f (fields_in all) x
held f x what.Interfaces = of_body f (interfaces_in f) x
held f x what.PossibleTypes = possible f x
held f x (what.EnumValues all) = of_body f (values_in all) x
held f x what.InputFields = of_body f inputs_in x
held f x what.OfType = of_type f x
held f x what.SpecifiedByUrl = specified_by f x
held f x what.Args = arguments x
held f x what.FieldType = type_of f x
held f x what.IsDeprecated = deprecated x
held f x what.DeprecationReason = reason x
held f x what.DefaultValue = default_of x
held f x what.Locations = locations x
held f x what.IsRepeatable = repeatable x
