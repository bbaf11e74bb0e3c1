-- The texts of what every schema has.
use Rattle.std.specs.Prelude.{ℕ, List, ◌++◌, codes}

-- The types of the schema of schemas, after the name of its type of queries (GraphQL October 2021, 4.2).

-- the fields of the type of queries, and `__Schema`
unfoldable pub schema_types : List ℕ
schema_types =
    codes " { __schema: __Schema! __type(name: String!): __Type }"
    ++ codes " type __Schema { description: String types: [__Type!]! queryType: __Type! mutationType: __Type subscriptionType: __Type directives: [__Directive!]! }"

-- `__Type` and the kinds of types
unfoldable pub type_types : List ℕ
type_types =
    codes " type __Type { kind: __TypeKind! name: String description: String fields(includeDeprecated: Boolean = false): [__Field!] interfaces: [__Type!]"
    ++ codes " possibleTypes: [__Type!] enumValues(includeDeprecated: Boolean = false): [__EnumValue!] inputFields: [__InputValue!] ofType: __Type specifiedByURL:"
    ++ codes " String }"
    ++ codes " enum __TypeKind { SCALAR OBJECT INTERFACE UNION ENUM INPUT_OBJECT LIST NON_NULL }"

-- `__Field`, `__InputValue` and `__EnumValue`
unfoldable pub part_types : List ℕ
part_types =
    codes " type __Field { name: String! description: String args: [__InputValue!]! type: __Type! isDeprecated: Boolean! deprecationReason: String }"
    ++ codes " type __InputValue { name: String! description: String type: __Type! defaultValue: String }"
    ++ codes " type __EnumValue { name: String! description: String isDeprecated: Boolean! deprecationReason: String }"

-- `__Directive` and the places at which directives may stand
unfoldable pub directive_types : List ℕ
directive_types =
    codes " type __Directive { name: String! description: String locations: [__DirectiveLocation!]! args: [__InputValue!]! isRepeatable: Boolean! }"
    ++ codes " enum __DirectiveLocation { QUERY MUTATION SUBSCRIPTION FIELD FRAGMENT_DEFINITION FRAGMENT_SPREAD INLINE_FRAGMENT VARIABLE_DEFINITION SCHEMA SCALAR"
    ++ codes " OBJECT FIELD_DEFINITION ARGUMENT_DEFINITION INTERFACE UNION ENUM ENUM_VALUE INPUT_OBJECT INPUT_FIELD_DEFINITION }"

-- the text of the schema of schemas, whose type of queries has this name
abbrev pub meta_text : List ℕ → List ℕ
meta_text query = codes "schema { query: " ++ query ++ codes " } type " ++ query ++ schema_types ++ type_types ++ part_types ++ directive_types

-- the text of the directives that are built in (GraphQL October 2021, 3.13)
unfoldable pub built_in_directives : List ℕ
built_in_directives =
    codes "directive @skip(if: Boolean!) on FIELD | FRAGMENT_SPREAD | INLINE_FRAGMENT "
    ++ codes "directive @include(if: Boolean!) on FIELD | FRAGMENT_SPREAD | INLINE_FRAGMENT "
    ++ codes "directive @deprecated(reason: String = \"No longer supported\") on FIELD_DEFINITION | ENUM_VALUE "
    ++ codes "directive @specifiedBy(url: String!) on SCALAR"
