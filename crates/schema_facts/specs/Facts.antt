-- What is known of a schema: what its text defines, and what every schema has.
use Rattle.std.specs.Prelude.{◌≡◌, ℕ, ◌+◌, Bool, true, false, not, ◌&&◌, List, [], ◌∷◌, ◌++◌, map, length, Option, None, Some, option_map, codes, if◌then◌else◌, Vec}
use Rattle.std.specs.Global.{Global}
use Rattle.std.specs.List.{list_any}
use Rattle.std.specs.Str.{bytes_eq}
use Rattle.gql_base.specs.declared.parts.trees.OperationKind.{OperationKind}
use Rattle.gql_base.specs.declared.parts.trees.OperationKind.TheVariants.{Query, Mutation, Subscription}
use Rattle.gql_base.specs.names.Names.{has_name, place_of_name}
use Rattle.schema_reader.specs.Schemas.{NameText, BodyTree, schema_body, object_body, interface_body, union_body, directive_body, DefinitionTree}
use Rattle.schema_reader.specs.SchemaAnswers.{HasSchema}
use Rattle.schema_reader.specs.Trees.{definition_tree}
use Rattle.schema_rules.specs.Items.{ItemTree, argument_item, field_type_item, input_field_item, directive_argument_item, items_of, innermost, input_type}
use Rattle.schema_rules.specs.TypeNames.{types_of}
use Rattle.schema_rules.specs.Roots.{root_name}
use Rattle.schema_rules.specs.Reserved.{begins_reserved}
use Rattle.schema_facts.specs.declared.known.KnownType.{KnownType}
use Rattle.schema_facts.specs.declared.known.KnownType.TheVariants.{BuiltIn, Defined}
use Rattle.schema_facts.specs.MetaText.{meta_text, built_in_directives}

-- ---- types

-- a type: a built-in scalar that the text doesn't define, or one that a text defines
pub data KnownTree : Type 0 where
  built_in : (name : NameText) → KnownTree
  defined : DefinitionTree → KnownTree

abbrev pub definition_name : DefinitionTree → NameText
definition_name d = d.1.0

abbrev pub definition_body : DefinitionTree → BodyTree
definition_body d = d.1.2

abbrev pub known_name : KnownTree → NameText
known_name (built_in name) = name
known_name (defined d) = definition_name d

abbrev pub is_type_body : BodyTree → Bool
is_type_body (schema_body roots) = false
is_type_body (directive_body arguments repeatable locations) = false
is_type_body other = true

abbrev pub is_schema_body : BodyTree → Bool
is_schema_body (schema_body roots) = true
is_schema_body other = false

abbrev pub is_directive_body : BodyTree → Bool
is_directive_body (directive_body arguments repeatable locations) = true
is_directive_body other = false

abbrev pub before_types : DefinitionTree → List KnownTree → List KnownTree
before_types d others = if is_type_body (definition_body d) then defined d ∷ others else others

-- the types that a text defines, in their order
abbrev pub types_in : List DefinitionTree → List KnownTree
types_in [] = []
types_in (d ∷ definitions) = before_types d (types_in definitions)

-- whether a field, an argument or an input field is of this type, or of a list of it or so
abbrev pub mentions : NameText → ItemTree → Bool
mentions name (argument_item of field input) = bytes_eq (innermost (input_type input)) name
mentions name (field_type_item of field type directives) = bytes_eq (innermost type) name
mentions name (input_field_item of input) = bytes_eq (innermost (input_type input)) name
mentions name (directive_argument_item directive input) = bytes_eq (innermost (input_type input)) name
mentions name other = false

abbrev pub is_mentioned : NameText → List ItemTree → Bool
is_mentioned name items = list_any (mentions name) items

-- these types, and where it is due and none of them has its name, a built-in scalar
abbrev pub with_scalar : Bool → NameText → List KnownTree → List KnownTree
with_scalar is_due name types = if is_due && not (has_name known_name types name) then types ++ (built_in name ∷ []) else types

-- String and Boolean stand in the schema of schemas. Other built-in scalars are there where the text refers to them.
abbrev pub scalars_if : Bool → Bool → List KnownTree → List KnownTree
scalars_if int id types = with_scalar id (codes "ID") (with_scalar int (codes "Int") (with_scalar true (codes "Boolean") (with_scalar true (codes "String") types)))

abbrev pub with_scalars : List ItemTree → List KnownTree → List KnownTree
with_scalars items types = scalars_if (is_mentioned (codes "Int") items) (is_mentioned (codes "ID") items) types

abbrev pub before_reserved : DefinitionTree → List KnownTree → List KnownTree
before_reserved d others = if begins_reserved (definition_name d) then defined d ∷ others else others

-- the definitions with names that begin with two underscores: the types of the schema of schemas but for its type of queries
abbrev pub reserved_in : List DefinitionTree → List KnownTree
reserved_in [] = []
reserved_in (d ∷ definitions) = before_reserved d (reserved_in definitions)

-- the types that there are: those of the text, built-in scalars, and those of the schema of schemas
abbrev pub known_types : List DefinitionTree → List DefinitionTree → List KnownTree
known_types text meta = with_scalars (items_of text) (types_in text) ++ reserved_in meta

-- the number of the type of a name, or that of all types where none has it
abbrev pub or_past : List KnownTree → Option ℕ → ℕ
or_past types None = length types
or_past types (Some n) = n

abbrev pub number_named : List KnownTree → NameText → ℕ
number_named types name = or_past types (place_of_name known_name types name)

-- ---- possible types, which are object types

-- the numbers of those that pass a test, where the first has the number n
abbrev pub numbers_from : {A : Type 0} → ℕ → (A → Bool) → List A → List ℕ
numbers_from n test [] = []
numbers_from n test (x ∷ others) = if test x then n ∷ numbers_from (n + 1) test others else numbers_from (n + 1) test others

abbrev pub names_interface : NameText → BodyTree → Bool
names_interface name (object_body interfaces fields) = list_any (bytes_eq name) interfaces
names_interface name other = false

abbrev pub is_object_body : BodyTree → Bool
is_object_body (object_body interfaces fields) = true
is_object_body other = false

-- an object type that implements the interface of a name
abbrev pub implements : NameText → KnownTree → Bool
implements name (built_in scalar) = false
implements name (defined d) = names_interface name (definition_body d)

abbrev pub same_name : NameText → NameText
same_name name = name

-- an object type that is a member of a union with these
abbrev pub is_member : List NameText → KnownTree → Bool
is_member members (built_in scalar) = false
is_member members (defined d) = is_object_body (definition_body d) && has_name same_name members (definition_name d)

abbrev pub possible_by : List KnownTree → NameText → BodyTree → List ℕ
possible_by types name (interface_body interfaces fields) = numbers_from 0 (implements name) types
possible_by types name (union_body members) = numbers_from 0 (is_member members) types
possible_by types name other = []

-- the numbers of the possible types of an interface or a union (GraphQL October 2021, 5.5.2.3)
abbrev pub possible_types : List KnownTree → KnownTree → List ℕ
possible_types types (built_in name) = []
possible_types types (defined d) = possible_by types (definition_name d) (definition_body d)

-- ---- directives

abbrev pub defines_directive : NameText → DefinitionTree → Bool
defines_directive name d = is_directive_body (definition_body d) && bytes_eq (definition_name d) name

abbrev pub has_directive : List DefinitionTree → NameText → Bool
has_directive text name = list_any (defines_directive name) text

abbrev pub before_directives : DefinitionTree → List DefinitionTree → List DefinitionTree
before_directives d others = if is_directive_body (definition_body d) then d ∷ others else others

-- the directives that a text defines, in their order
abbrev pub directives_in : List DefinitionTree → List DefinitionTree
directives_in [] = []
directives_in (d ∷ definitions) = before_directives d (directives_in definitions)

abbrev pub unless_defined : List DefinitionTree → DefinitionTree → List DefinitionTree → List DefinitionTree
unless_defined text d others = if has_directive text (definition_name d) then others else d ∷ others

-- the definitions of directives that a text doesn't define itself
abbrev pub not_defined : List DefinitionTree → List DefinitionTree → List DefinitionTree
not_defined text [] = []
not_defined text (d ∷ definitions) = unless_defined text d (not_defined text definitions)

-- ---- the whole

abbrev pub description_or : DefinitionTree → Option (List ℕ) → Option (List ℕ)
description_or d others = if is_schema_body (definition_body d) then d.0 else others

-- the description of the first schema definition
abbrev pub schema_description : List DefinitionTree → Option (List ℕ)
schema_description [] = None
schema_description (d ∷ definitions) = description_or d (schema_description definitions)

abbrev pub or_empty : Option (List ℕ) → List ℕ
or_empty None = []
or_empty (Some text) = text

pub record FactsData : Type 0 where
  -- the description of the schema
  pub description : Option (List ℕ)
  pub types : List KnownTree
  -- the name and the number of the type of queries, and the numbers of those of mutations and subscriptions
  pub query_name : NameText
  pub query : ℕ
  pub mutation : Option ℕ
  pub subscription : Option ℕ
  pub directives : List DefinitionTree

abbrev pub facts_with : Option (List ℕ) → List KnownTree → Option NameText → Option NameText → Option NameText → List DefinitionTree → FactsData
facts_with description types query mutation subscription directives = record {
  description = description;
  types = types;
  query_name = or_empty query;
  query = number_named types (or_empty query);
  mutation = option_map (number_named types) mutation;
  subscription = option_map (number_named types) subscription;
  directives = directives;
}

-- the name of the type of a kind of operations
abbrev pub root_in : List DefinitionTree → OperationKind → Option NameText
root_in text kind = root_name (items_of text) (types_of (items_of text)) kind

-- what is known by a text, beside the texts of the schema of schemas and of the directives that are built in
abbrev pub facts_from : List DefinitionTree → List DefinitionTree → List DefinitionTree → FactsData
facts_from text meta built_ins =
    facts_with (schema_description text) (known_types text meta) (root_in text Query) (root_in text Mutation) (root_in text Subscription) (not_defined text built_ins ++ directives_in text)

-- What is known of a schema by its text.
pub record AreFacts (text : List DefinitionTree) (facts : FactsData) : Type 0 where
  pub meta : List DefinitionTree
  pub built_ins : List DefinitionTree
  pub meta_read : HasSchema (meta_text facts.query_name) meta
  pub built_ins_read : HasSchema built_in_directives built_ins
  pub same : facts ≡ facts_from text meta built_ins

-- ---- what the program's facts stand for

abbrev pub known_type : KnownType → KnownTree
known_type (BuiltIn name) = built_in name
known_type (Defined d) = defined (definition_tree d)

abbrev pub numbers_in : Vec ℕ Global → List ℕ
numbers_in v = v.items

-- The possible types of each type stand in a list.
abbrev pub KnowsPossible : List (Vec ℕ Global) → List KnownType → Type 0
KnowsPossible possible types = map numbers_in possible ≡ map (possible_types (map known_type types)) (map known_type types)
