-- The types of the three kinds of operations (GraphQL October 2021, 3.3.1): those that the schema definition names, or,
-- without one, the types named Query, Mutation and Subscription.
use Rattle.std.specs.Prelude.{ℕ, Bool, true, false, List, Option, None, codes, if◌then◌else◌}
use Rattle.std.specs.List.{list_any}
use Rattle.gql_base.specs.names.Names.{has_name}
use Rattle.gql_base.specs.declared.parts.trees.OperationKind.{OperationKind}
use Rattle.gql_base.specs.declared.parts.trees.OperationKind.TheVariants.{Query, Mutation, Subscription}
use Rattle.schema_rules.specs.Items.{ItemTree, schema_item, root_item, type_item, interface_item, member_item, field_item, argument_item, field_type_item, enum_value_item, input_field_item, directive_item, directive_argument_item}
use Rattle.schema_rules.specs.TypeNames.{NamedKind, name_of}
use Rattle.schema_rules.specs.First.{first_of, fault_where}

abbrev pub is_schema : ItemTree → Bool
is_schema (schema_item directives) = true
is_schema (root_item kind name) = false
is_schema (type_item name kind is_empty directives) = false
is_schema (interface_item of name) = false
is_schema (member_item of name) = false
is_schema (field_item of name) = false
is_schema (argument_item of field input) = false
is_schema (field_type_item of name type directives) = false
is_schema (enum_value_item of name directives) = false
is_schema (input_field_item of input) = false
is_schema (directive_item name) = false
is_schema (directive_argument_item directive input) = false

-- whether a text has a schema definition
abbrev pub has_schema : List ItemTree → Bool
has_schema items = list_any is_schema items

abbrev pub is_same_kind : OperationKind → OperationKind → Bool
is_same_kind Query Query = true
is_same_kind Query Mutation = false
is_same_kind Query Subscription = false
is_same_kind Mutation Query = false
is_same_kind Mutation Mutation = true
is_same_kind Mutation Subscription = false
is_same_kind Subscription Query = false
is_same_kind Subscription Mutation = false
is_same_kind Subscription Subscription = true

-- the type that a thing names for a kind of operations
abbrev pub root_told : OperationKind → ItemTree → Option (List ℕ)
root_told wanted (root_item kind name) = fault_where (is_same_kind wanted kind) name
root_told wanted (schema_item directives) = None
root_told wanted (type_item name kind is_empty directives) = None
root_told wanted (interface_item of name) = None
root_told wanted (member_item of name) = None
root_told wanted (field_item of name) = None
root_told wanted (argument_item of field input) = None
root_told wanted (field_type_item of name type directives) = None
root_told wanted (enum_value_item of name directives) = None
root_told wanted (input_field_item of input) = None
root_told wanted (directive_item name) = None
root_told wanted (directive_argument_item directive input) = None

-- the name that the type has without a schema definition
abbrev pub usual_name : OperationKind → List ℕ
usual_name Query = codes "Query"
usual_name Mutation = codes "Mutation"
usual_name Subscription = codes "Subscription"

-- the name of the type of a kind of operations
abbrev pub root_name : List ItemTree → List NamedKind → OperationKind → Option (List ℕ)
root_name items types kind = if has_schema items then first_of (root_told kind) items else fault_where (has_name name_of types (usual_name kind)) (usual_name kind)
