-- No type, field, argument or input field has a name that begins with two underscores (GraphQL October 2021, 2.1.9).
use Rattle.std.specs.Prelude.{ℕ, nat_eq, Bool, true, false, ◌&&◌, List, [], ◌∷◌, Option, None}
use Rattle.schema_rules.specs.Places.{PlaceTree}
use Rattle.schema_rules.specs.Items.{ItemTree, schema_item, root_item, type_item, interface_item, member_item, field_item, argument_item, field_type_item, enum_value_item, input_field_item, directive_item, directive_argument_item, place_of, input_name}
use Rattle.schema_rules.specs.First.{fault_where, first_of}

abbrev pub begins_reserved : List ℕ → Bool
begins_reserved [] = false
begins_reserved (a ∷ []) = false
begins_reserved (a ∷ (b ∷ rest)) = nat_eq a 95 && nat_eq b 95

abbrev pub is_reserved : ItemTree → Bool
is_reserved (type_item name kind is_empty directives) = begins_reserved name
is_reserved (field_item of name) = begins_reserved name
is_reserved (argument_item of field input) = begins_reserved (input_name input)
is_reserved (input_field_item of input) = begins_reserved (input_name input)
is_reserved (directive_argument_item directive input) = begins_reserved (input_name input)
is_reserved (schema_item directives) = false
is_reserved (root_item kind name) = false
is_reserved (interface_item of name) = false
is_reserved (member_item of name) = false
is_reserved (field_type_item of name type directives) = false
is_reserved (enum_value_item of name directives) = false
is_reserved (directive_item name) = false

abbrev pub reserved_at : ItemTree → Option PlaceTree
reserved_at i = fault_where (is_reserved i) (place_of i)

-- the place of the first reserved name
abbrev pub reserved : List ItemTree → Option PlaceTree
reserved items = first_of reserved_at items

-- The same where reserved names are refused. In the schema of schemas (GraphQL October 2021, 4.2) they stand by right.
abbrev pub reserved_if : Bool → List ItemTree → Option PlaceTree
reserved_if true items = reserved items
reserved_if false items = None
