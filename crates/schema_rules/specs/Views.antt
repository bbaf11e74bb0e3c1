-- What places, things of a text and names of types stand for, as the program holds them.
use Rattle.std.specs.Prelude.{ℕ, List, map, Option, None, Some}
use Rattle.std.specs.Borrow.{Bor}
use Rattle.gql_base.specs.parts.Trees.{value_tree, named_value, type_tree, directive_tree}
use Rattle.gql_base.specs.declared.parts.trees.Argument.{Argument as ArgumentOf}
use Rattle.gql_base.specs.parts.Values.{NamedValue, ValueTree, variable_value, integer_value, float_value, string_value, boolean_value, null_value, enum_value, list_value, object_value, values_from, fields_from}
use Rattle.schema_reader.specs.Trees.{input_tree}
use Rattle.schema_rules.specs.declared.place.Place.{Place}
use Rattle.schema_rules.specs.declared.place.Place.TheVariants.{«Type» as TypePlace, Field as FieldPlace, Argument as ArgumentPlace, Directive as DirectivePlace, DirectiveArgument as DirectiveArgumentPlace, Schema as SchemaPlace}
use Rattle.schema_rules.specs.declared.items.Item.{Item}
use Rattle.schema_rules.specs.declared.items.Item.TheVariants.{Schema, Root, «Type» as TypeItem, Interface, Member, Field, Argument, FieldType, EnumValue, InputField, Directive, DirectiveArgument}
use Rattle.schema_rules.specs.declared.literals.Literal.{Literal}
use Rattle.schema_rules.specs.declared.literals.Literal.TheVariants.{Var, Int, Float as FloatLiteral, Str, Bool as BoolLiteral, Null, EnumName, List as ListLiteral, Object}
use Rattle.schema_rules.specs.declared.type_names.TypeName.{TypeName}
use Rattle.schema_rules.specs.Places.{PlaceTree, at_type, at_field, at_argument, at_directive, at_directive_argument, at_schema}
use Rattle.schema_rules.specs.Items.{ItemTree, schema_item, root_item, type_item, interface_item, member_item, field_item, argument_item, field_type_item, enum_value_item, input_field_item, directive_item, directive_argument_item}
use Rattle.schema_rules.specs.TypeNames.{NamedKind}

abbrev pub place_tree : Place → PlaceTree
place_tree (TypePlace name) = at_type name.now
place_tree (FieldPlace of name) = at_field of.now name.now
place_tree (ArgumentPlace of field name) = at_argument of.now field.now name.now
place_tree (DirectivePlace name) = at_directive name.now
place_tree (DirectiveArgumentPlace directive name) = at_directive_argument directive.now name.now
place_tree SchemaPlace = at_schema

abbrev pub maybe_place : Option Place → Option PlaceTree
maybe_place None = None
maybe_place (Some place) = Some (place_tree place)

abbrev pub maybe_name : Option (Bor (List ℕ)) → Option (List ℕ)
maybe_name None = None
maybe_name (Some name) = Some name.now

abbrev pub item_tree : Item → ItemTree
item_tree (Schema directives) = schema_item (map directive_tree directives.now)
item_tree (Root kind name) = root_item kind name.now
item_tree (TypeItem name kind is_empty directives) = type_item name.now kind is_empty (map directive_tree directives.now)
item_tree (Interface of name) = interface_item of.now name.now
item_tree (Member of name) = member_item of.now name.now
item_tree (Field of name) = field_item of.now name.now
item_tree (Argument of field input) = argument_item of.now field.now (input_tree input.now)
item_tree (FieldType of field) = field_type_item of.now field.now.name (type_tree field.now.of) (map directive_tree field.now.directives.items)
item_tree (EnumValue of value) = enum_value_item of.now value.now.name (map directive_tree value.now.directives.items)
item_tree (InputField of input) = input_field_item of.now (input_tree input.now)
item_tree (Directive name) = directive_item name.now
item_tree (DirectiveArgument directive input) = directive_argument_item directive.now (input_tree input.now)

abbrev pub literal_tree : Literal → ValueTree
literal_tree (Var name at) = variable_value name.now at
literal_tree (Int n) = integer_value n
literal_tree (FloatLiteral digits) = float_value digits.now
literal_tree (Str s) = string_value s.now
literal_tree (BoolLiteral b) = boolean_value b
literal_tree Null = null_value
literal_tree (EnumName name at) = enum_value name.now at
literal_tree (ListLiteral items) = list_value (values_from (map value_tree items.now))
literal_tree (Object fields) = object_value (fields_from (map named_value fields.now))

abbrev pub named_kind : TypeName → NamedKind
named_kind t = record { name = t.name.now; kind = t.kind }

abbrev pub maybe_arguments : Option (Bor (List ArgumentOf)) → Option (List NamedValue)
maybe_arguments None = None
maybe_arguments (Some arguments) = Some (map named_value arguments.now)
