-- Fields have output types, arguments and input fields have input types; the types of operations and the members of unions
-- are object types; a type implements interfaces, and none itself (GraphQL October 2021, 3.3.1, 3.6, 3.7, 3.8 and 3.10).
use Rattle.std.specs.Prelude.{ℕ, Bool, false, not, ◌&&◌, ◌||◌, List, Option, codes}
use Rattle.std.specs.Str.{bytes_eq}
use Rattle.schema_rules.specs.Places.{PlaceTree}
use Rattle.schema_rules.specs.Kinds.{is_object, is_interface, is_input_only, is_output_only}
use Rattle.schema_rules.specs.Items.{ItemTree, schema_item, root_item, type_item, interface_item, member_item, field_item, argument_item, field_type_item, enum_value_item, input_field_item, directive_item, directive_argument_item, place_of, input_type, innermost}
use Rattle.schema_rules.specs.TypeNames.{NamedKind, kind_named}
use Rattle.schema_rules.specs.Roots.{has_schema}
use Rattle.schema_rules.specs.First.{fault_where, first_of}

-- whether a type is one of operations by its name, where there is no schema definition
abbrev pub is_usual_root : List ℕ → Bool
is_usual_root name = bytes_eq name (codes "Query") || (bytes_eq name (codes "Mutation") || bytes_eq name (codes "Subscription"))

abbrev pub is_wrong : List NamedKind → Bool → ItemTree → Bool
is_wrong types has_schema (root_item kind name) = not (is_object (kind_named types name))
is_wrong types has_schema (type_item name kind is_empty directives) = not has_schema && is_usual_root name && not (is_object kind)
is_wrong types has_schema (interface_item of name) = not (is_interface (kind_named types name)) || bytes_eq name of
is_wrong types has_schema (member_item of name) = not (is_object (kind_named types name))
is_wrong types has_schema (argument_item of field input) = is_output_only (kind_named types (innermost (input_type input)))
is_wrong types has_schema (field_type_item of name type directives) = is_input_only (kind_named types (innermost type))
is_wrong types has_schema (input_field_item of input) = is_output_only (kind_named types (innermost (input_type input)))
is_wrong types has_schema (directive_argument_item directive input) = is_output_only (kind_named types (innermost (input_type input)))
is_wrong types has_schema (schema_item directives) = false
is_wrong types has_schema (field_item of name) = false
is_wrong types has_schema (enum_value_item of name directives) = false
is_wrong types has_schema (directive_item name) = false

abbrev pub wrong_at : List NamedKind → Bool → ItemTree → Option PlaceTree
wrong_at types has_schema i = fault_where (is_wrong types has_schema i) (place_of i)

-- the place of the first type of a wrong kind
abbrev pub wrong_kind : List NamedKind → List ItemTree → Option PlaceTree
wrong_kind types items = first_of (wrong_at types (has_schema items)) items
