-- A schema has at most 5,000 types and 50,000 fields of object and interface types.
use Rattle.std.specs.Prelude.{ℕ, nat_lt, Bool, true, false, List, length, Option}
use Rattle.std.specs.List.{filter}
use Rattle.schema_rules.specs.Items.{ItemTree, schema_item, root_item, type_item, interface_item, member_item, field_item, argument_item, field_type_item, enum_value_item, input_field_item, directive_item, directive_argument_item}
use Rattle.schema_rules.specs.First.{fault_where, or_else}

abbrev pub is_type : ItemTree → Bool
is_type (type_item name kind is_empty directives) = true
is_type (schema_item directives) = false
is_type (root_item kind name) = false
is_type (interface_item of name) = false
is_type (member_item of name) = false
is_type (field_item of name) = false
is_type (argument_item of field input) = false
is_type (field_type_item of name type directives) = false
is_type (enum_value_item of name directives) = false
is_type (input_field_item of input) = false
is_type (directive_item name) = false
is_type (directive_argument_item directive input) = false

abbrev pub is_field : ItemTree → Bool
is_field (field_item of name) = true
is_field (schema_item directives) = false
is_field (root_item kind name) = false
is_field (type_item name kind is_empty directives) = false
is_field (interface_item of name) = false
is_field (member_item of name) = false
is_field (argument_item of field input) = false
is_field (field_type_item of name type directives) = false
is_field (enum_value_item of name directives) = false
is_field (input_field_item of input) = false
is_field (directive_item name) = false
is_field (directive_argument_item directive input) = false

-- the number of types that a text defines
abbrev pub type_count : List ItemTree → ℕ
type_count items = length (filter is_type items)

-- the number of fields of object and interface types
abbrev pub field_count : List ItemTree → ℕ
field_count items = length (filter is_field items)

abbrev pub above : ℕ → ℕ → Option ℕ
above limit n = fault_where (nat_lt limit n) n

-- the number that is too great
abbrev pub too_many : List ItemTree → Option ℕ
too_many items = or_else (above 5000 (type_count items)) (above 50000 (field_count items))
