-- The things of a schema text, in the order in which they are written.
use Rattle.std.specs.Prelude.{Bool, true, false, List, [], ◌∷◌, ◌++◌, map, Option, None, Some}
use Rattle.std.specs.List.{flat_map}
use Rattle.gql_base.specs.declared.parts.trees.OperationKind.{OperationKind}
use Rattle.gql_base.specs.parts.TypeReferences.{TypeTree, named_type, list_type, non_null_type}
use Rattle.gql_base.specs.parts.Arguments.{DirectiveTree}
use Rattle.schema_reader.specs.Schemas.{NameText, RootTree, InputDefTree, FieldDefTree, EnumValueTree, BodyTree, schema_body, scalar_body, object_body, interface_body, union_body, enum_body, input_body, directive_body, DefinitionTree}
use Rattle.schema_rules.specs.declared.kind.Kind.{Kind}
use Rattle.schema_rules.specs.declared.kind.Kind.TheVariants.{Scalar, Object, Interface, Union, Enum, Input}
use Rattle.schema_rules.specs.Places.{PlaceTree, at_type, at_field, at_argument, at_directive, at_directive_argument, at_schema}

pub data ItemTree : Type 0 where
  -- a schema definition, before its roots
  schema_item : (directives : List DirectiveTree) → ItemTree
  -- the type of the operations of a kind
  root_item : (kind : OperationKind) (name : NameText) → ItemTree
  -- a type, before all that it has; whether it has nothing of what its kind must have
  type_item : (name : NameText) (kind : Kind) (is_empty : Bool) (directives : List DirectiveTree) → ItemTree
  -- an interface that a type names
  interface_item : (of : NameText) (name : NameText) → ItemTree
  -- a type that a union names
  member_item : (of : NameText) (name : NameText) → ItemTree
  -- a field by its name, before its arguments
  field_item : (of : NameText) (name : NameText) → ItemTree
  argument_item : (of : NameText) (field : NameText) (input : InputDefTree) → ItemTree
  -- the type of a field and its directives, after its arguments
  field_type_item : (of : NameText) (name : NameText) (type : TypeTree) (directives : List DirectiveTree) → ItemTree
  enum_value_item : (of : NameText) (name : NameText) (directives : List DirectiveTree) → ItemTree
  input_field_item : (of : NameText) (input : InputDefTree) → ItemTree
  -- a directive, before its arguments
  directive_item : (name : NameText) → ItemTree
  directive_argument_item : (directive : NameText) (input : InputDefTree) → ItemTree

abbrev pub input_name : InputDefTree → NameText
input_name i = i.1

abbrev pub input_type : InputDefTree → TypeTree
input_type i = i.2

abbrev pub input_directives : InputDefTree → List DirectiveTree
input_directives i = i.4

abbrev pub root_item_of : RootTree → ItemTree
root_item_of r = root_item r.0 r.1

abbrev pub field_type_of : NameText → FieldDefTree → ItemTree
field_type_of of f = field_type_item of f.1 f.3 f.4

-- a field: its name, its arguments, its type
abbrev pub field_items : NameText → FieldDefTree → List ItemTree
field_items of f = field_item of f.1 ∷ (map (argument_item of f.1) f.2 ++ (field_type_of of f ∷ []))

abbrev pub enum_value_of : NameText → EnumValueTree → ItemTree
enum_value_of of v = enum_value_item of v.1.0 v.1.1

abbrev pub is_none_of : {A : Type 0} → List A → Bool
is_none_of [] = true
is_none_of (x ∷ xs) = false

-- a type with interfaces and fields
abbrev pub fielded_items : NameText → Kind → List DirectiveTree → List NameText → List FieldDefTree → List ItemTree
fielded_items name kind directives interfaces fields = type_item name kind (is_none_of fields) directives ∷ (map (interface_item name) interfaces ++ flat_map (field_items name) fields)

abbrev pub body_items : NameText → List DirectiveTree → BodyTree → List ItemTree
body_items name directives (schema_body roots) = schema_item directives ∷ map root_item_of roots
body_items name directives scalar_body = type_item name Scalar false directives ∷ []
body_items name directives (object_body interfaces fields) = fielded_items name Object directives interfaces fields
body_items name directives (interface_body interfaces fields) = fielded_items name Interface directives interfaces fields
body_items name directives (union_body members) = type_item name Union (is_none_of members) directives ∷ map (member_item name) members
body_items name directives (enum_body values) = type_item name Enum (is_none_of values) directives ∷ map (enum_value_of name) values
body_items name directives (input_body fields) = type_item name Input (is_none_of fields) directives ∷ map (input_field_item name) fields
body_items name directives (directive_body arguments repeatable locations) = directive_item name ∷ map (directive_argument_item name) arguments

abbrev pub definition_items : DefinitionTree → List ItemTree
definition_items d = body_items d.1.0 d.1.1 d.1.2

-- all things of a text
abbrev pub items_of : List DefinitionTree → List ItemTree
items_of = flat_map definition_items

-- where a thing stands
abbrev pub place_of : ItemTree → PlaceTree
place_of (schema_item directives) = at_schema
place_of (root_item kind name) = at_schema
place_of (type_item name kind is_empty directives) = at_type name
place_of (interface_item of name) = at_type of
place_of (member_item of name) = at_type of
place_of (field_item of name) = at_field of name
place_of (argument_item of field input) = at_argument of field (input_name input)
place_of (field_type_item of name type directives) = at_field of name
place_of (enum_value_item of name directives) = at_field of name
place_of (input_field_item of input) = at_field of (input_name input)
place_of (directive_item name) = at_directive name
place_of (directive_argument_item directive input) = at_directive_argument directive (input_name input)

-- the named type inside of a type
unfoldable pub innermost : TypeTree → NameText
innermost (named_type name at) = name
innermost (list_type t) = innermost t
innermost (non_null_type t) = innermost t

-- the type that a thing names, if it names one
abbrev pub type_mentioned : ItemTree → Option NameText
type_mentioned (schema_item directives) = None
type_mentioned (root_item kind name) = Some name
type_mentioned (type_item name kind is_empty directives) = None
type_mentioned (interface_item of name) = Some name
type_mentioned (member_item of name) = Some name
type_mentioned (field_item of name) = None
type_mentioned (argument_item of field input) = Some (innermost (input_type input))
type_mentioned (field_type_item of name type directives) = Some (innermost type)
type_mentioned (enum_value_item of name directives) = None
type_mentioned (input_field_item of input) = Some (innermost (input_type input))
type_mentioned (directive_item name) = None
type_mentioned (directive_argument_item directive input) = Some (innermost (input_type input))
