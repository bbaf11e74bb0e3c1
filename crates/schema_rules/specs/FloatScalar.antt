-- No field, argument or input field has the type Float, and no scalar is named so, unless the text lets floats in: by a definition of
-- the scalar Float with `@floats`.
use Rattle.std.specs.Prelude.{ℕ, Bool, false, ◌&&◌, List, Option, None, codes, if◌then◌else◌}
use Rattle.std.specs.List.{list_any}
use Rattle.std.specs.Str.{bytes_eq}
use Rattle.schema_rules.specs.Places.{PlaceTree}
use Rattle.schema_rules.specs.Kinds.{is_scalar}
use Rattle.schema_rules.specs.DirectiveUses.{is_lax}
use Rattle.schema_rules.specs.Items.{ItemTree, schema_item, root_item, type_item, interface_item, member_item, field_item, argument_item, field_type_item, enum_value_item, input_field_item, directive_item, directive_argument_item, place_of, input_type, innermost}
use Rattle.schema_rules.specs.First.{fault_where, first_of}

abbrev pub is_float_name : List ℕ → Bool
is_float_name name = bytes_eq name (codes "Float")

abbrev pub is_float : ItemTree → Bool
is_float (type_item name kind is_empty directives) = is_scalar kind && is_float_name name
is_float (argument_item of field input) = is_float_name (innermost (input_type input))
is_float (field_type_item of name type directives) = is_float_name (innermost type)
is_float (input_field_item of input) = is_float_name (innermost (input_type input))
is_float (directive_argument_item directive input) = is_float_name (innermost (input_type input))
is_float (schema_item directives) = false
is_float (root_item kind name) = false
is_float (interface_item of name) = false
is_float (member_item of name) = false
is_float (field_item of name) = false
is_float (enum_value_item of name directives) = false
is_float (directive_item name) = false

abbrev pub float_at : ItemTree → Option PlaceTree
float_at i = fault_where (is_float i) (place_of i)

-- whether a thing is a definition of the scalar Float with `@floats`
abbrev pub lets_floats_in : ItemTree → Bool
lets_floats_in (type_item name kind is_empty directives) = is_scalar kind && (is_float_name name && is_lax directives)
lets_floats_in (argument_item of field input) = false
lets_floats_in (field_type_item of name type directives) = false
lets_floats_in (input_field_item of input) = false
lets_floats_in (directive_argument_item directive input) = false
lets_floats_in (schema_item directives) = false
lets_floats_in (root_item kind name) = false
lets_floats_in (interface_item of name) = false
lets_floats_in (member_item of name) = false
lets_floats_in (field_item of name) = false
lets_floats_in (enum_value_item of name directives) = false
lets_floats_in (directive_item name) = false

abbrev pub allows_floats : List ItemTree → Bool
allows_floats items = list_any lets_floats_in items

-- the place of the first Float, where no floats are let in
abbrev pub float_scalar : List ItemTree → Option PlaceTree
float_scalar items = if allows_floats items then None else first_of float_at items
