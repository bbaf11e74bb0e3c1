-- In which scope a thing of a schema text has its name (GraphQL October 2021, 3). Of each name there is one thing in a scope.
use Rattle.std.specs.Prelude.{◌≡◌, Bool, true, ◌&&◌, [], codes}
use Rattle.std.specs.List.{list_all}
use Rattle.gql_base.specs.lexical.Characters.{is_name_continue}
use Rattle.gql_base.specs.declared.parts.trees.OperationKind.{OperationKind}
use Rattle.gql_base.specs.declared.parts.trees.OperationKind.TheVariants.{Query, Mutation, Subscription}
use Rattle.schema_reader.specs.Schemas.{NameText}
use Rattle.schema_rules.specs.Items.{ItemTree, schema_item, root_item, type_item, interface_item, member_item, field_item, argument_item, field_type_item, enum_value_item, input_field_item, directive_item, directive_argument_item, input_name}

pub data Scope : Type 0 where
  -- the definition of the schema, which has no name
  schema_definitions : Scope
  -- the types of operations, by the names of their kinds
  root_operations : Scope
  all_types : Scope
  all_directives : Scope
  -- the interfaces that a type names
  interfaces_of : (type : NameText) → Scope
  -- the types that a union names
  members_of : (type : NameText) → Scope
  -- the fields, enum values or input fields of a type
  fields_of : (type : NameText) → Scope
  -- the types of a type's fields, by the fields' names
  field_types_of : (type : NameText) → Scope
  arguments_of : (type : NameText) (field : NameText) → Scope
  directive_arguments_of : (directive : NameText) → Scope

-- the word for operations of a kind
abbrev pub kind_word : OperationKind → NameText
kind_word Query = codes "query"
kind_word Mutation = codes "mutation"
kind_word Subscription = codes "subscription"

abbrev pub scope_of : ItemTree → Scope
scope_of (schema_item directives) = schema_definitions
scope_of (root_item kind name) = root_operations
scope_of (type_item name kind is_empty directives) = all_types
scope_of (interface_item of name) = interfaces_of of
scope_of (member_item of name) = members_of of
scope_of (field_item of name) = fields_of of
scope_of (argument_item of field input) = arguments_of of field
scope_of (field_type_item of name type directives) = field_types_of of
scope_of (enum_value_item of name directives) = fields_of of
scope_of (input_field_item of input) = fields_of of
scope_of (directive_item name) = all_directives
scope_of (directive_argument_item directive input) = directive_arguments_of directive

-- the name that a thing has in its scope
abbrev pub own_name : ItemTree → NameText
own_name (schema_item directives) = []
own_name (root_item kind name) = kind_word kind
own_name (type_item name kind is_empty directives) = name
own_name (interface_item of name) = name
own_name (member_item of name) = name
own_name (field_item of name) = name
own_name (argument_item of field input) = input_name input
own_name (field_type_item of name type directives) = name
own_name (enum_value_item of name directives) = name
own_name (input_field_item of input) = input_name input
own_name (directive_item name) = name
own_name (directive_argument_item directive input) = input_name input

-- Both have one name in one scope.
abbrev pub HaveOneName : ItemTree → ItemTree → Type 0
HaveOneName one other = (scope_of one ≡ scope_of other) × (own_name one ≡ own_name other)

-- letters, digits and `_` alone (2.1.9)
abbrev pub is_named : NameText → Bool
is_named name = list_all is_name_continue name

-- The names by which a thing is known are names.
abbrev pub has_names : ItemTree → Bool
has_names (schema_item directives) = true
has_names (root_item kind name) = true
has_names (type_item name kind is_empty directives) = is_named name
has_names (interface_item of name) = is_named of && is_named name
has_names (member_item of name) = is_named of && is_named name
has_names (field_item of name) = is_named of && is_named name
has_names (argument_item of field input) = is_named of && (is_named field && is_named (input_name input))
has_names (field_type_item of name type directives) = is_named of && is_named name
has_names (enum_value_item of name directives) = is_named of && is_named name
has_names (input_field_item of input) = is_named of && is_named (input_name input)
has_names (directive_item name) = is_named name
has_names (directive_argument_item directive input) = is_named directive && is_named (input_name input)
