-- Each type has a field, a value or a member, but for scalars.
use Rattle.std.specs.Prelude.{ℕ, List, Option, None}
use Rattle.schema_rules.specs.Items.{ItemTree, schema_item, root_item, type_item, interface_item, member_item, field_item, argument_item, field_type_item, enum_value_item, input_field_item, directive_item, directive_argument_item}
use Rattle.schema_rules.specs.First.{fault_where, first_of}

abbrev pub empty_at : ItemTree → Option (List ℕ)
empty_at (type_item name kind is_empty directives) = fault_where is_empty name
empty_at (schema_item directives) = None
empty_at (root_item kind name) = None
empty_at (interface_item of name) = None
empty_at (member_item of name) = None
empty_at (field_item of name) = None
empty_at (argument_item of field input) = None
empty_at (field_type_item of name type directives) = None
empty_at (enum_value_item of name directives) = None
empty_at (input_field_item of input) = None
empty_at (directive_item name) = None
empty_at (directive_argument_item directive input) = None

-- the name of the first empty type
abbrev pub empty_type : List ItemTree → Option (List ℕ)
empty_type items = first_of empty_at items
