-- No field has a list of lists: `@listSize` declares one size.
use Rattle.std.specs.Prelude.{Bool, true, false, List, Option}
use Rattle.gql_base.specs.parts.TypeReferences.{TypeTree, named_type, list_type, non_null_type}
use Rattle.schema_rules.specs.Places.{PlaceTree}
use Rattle.schema_rules.specs.Items.{ItemTree, schema_item, root_item, type_item, interface_item, member_item, field_item, argument_item, field_type_item, enum_value_item, input_field_item, directive_item, directive_argument_item, place_of}
use Rattle.schema_rules.specs.First.{fault_where, first_of}

-- whether a type is a list, of items that may be null or not
unfoldable pub is_list : TypeTree → Bool
is_list (named_type name at) = false
is_list (list_type t) = true
is_list (non_null_type t) = is_list t

-- whether a type is a list of lists
unfoldable pub is_nested : TypeTree → Bool
is_nested (named_type name at) = false
is_nested (list_type t) = is_list t
is_nested (non_null_type t) = is_nested t

abbrev pub has_nested : ItemTree → Bool
has_nested (field_type_item of name type directives) = is_nested type
has_nested (schema_item directives) = false
has_nested (root_item kind name) = false
has_nested (type_item name kind is_empty directives) = false
has_nested (interface_item of name) = false
has_nested (member_item of name) = false
has_nested (field_item of name) = false
has_nested (argument_item of field input) = false
has_nested (enum_value_item of name directives) = false
has_nested (input_field_item of input) = false
has_nested (directive_item name) = false
has_nested (directive_argument_item directive input) = false

abbrev pub nested_at : ItemTree → Option PlaceTree
nested_at i = fault_where (has_nested i) (place_of i)

-- the place of the first list of lists
abbrev pub nested_list : List ItemTree → Option PlaceTree
nested_list items = first_of nested_at items
