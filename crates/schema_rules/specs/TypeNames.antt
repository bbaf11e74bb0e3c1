-- The types of a schema by their names: those that its text defines, in their order, and then the built-in scalars that
-- it doesn't define (GraphQL October 2021, 3.5).
use Rattle.std.specs.Prelude.{ℕ, Bool, ◌||◌, List, [], ◌∷◌, ◌++◌, Option, None, Some, codes, if◌then◌else◌}
use Rattle.std.specs.Str.{bytes_eq}
use Rattle.gql_base.specs.names.Names.{has_name, first_of_name}
use Rattle.schema_rules.specs.declared.kind.Kind.{Kind}
use Rattle.schema_rules.specs.declared.kind.Kind.TheVariants.{Scalar}
use Rattle.schema_rules.specs.Items.{ItemTree, schema_item, root_item, type_item, interface_item, member_item, field_item, argument_item, field_type_item, enum_value_item, input_field_item, directive_item, directive_argument_item}

pub record NamedKind : Type 0 where
  pub name : List ℕ
  pub kind : Kind

abbrev pub name_of : NamedKind → List ℕ
name_of t = t.name

-- whether a name is that of a built-in scalar
abbrev pub is_built_in : List ℕ → Bool
is_built_in name = bytes_eq name (codes "Int") || (bytes_eq name (codes "Float") || (bytes_eq name (codes "String") || (bytes_eq name (codes "Boolean") || bytes_eq name (codes "ID"))))

-- the type that a thing defines, before others
abbrev pub with_type : ItemTree → List NamedKind → List NamedKind
with_type (type_item name kind is_empty directives) others = record { name = name; kind = kind } ∷ others
with_type (schema_item directives) others = others
with_type (root_item kind name) others = others
with_type (interface_item of name) others = others
with_type (member_item of name) others = others
with_type (field_item of name) others = others
with_type (argument_item of field input) others = others
with_type (field_type_item of name type directives) others = others
with_type (enum_value_item of name directives) others = others
with_type (input_field_item of input) others = others
with_type (directive_item name) others = others
with_type (directive_argument_item directive input) others = others

abbrev pub types_defined : List ItemTree → List NamedKind
types_defined [] = []
types_defined (i ∷ items) = with_type i (types_defined items)

-- these types, and a scalar of this name where none has it
abbrev pub with_scalar : List ℕ → List NamedKind → List NamedKind
with_scalar name types = if has_name name_of types name then types else types ++ (record { name = name; kind = Scalar } ∷ [])

abbrev pub with_built_ins : List NamedKind → List NamedKind
with_built_ins types = with_scalar (codes "ID") (with_scalar (codes "Boolean") (with_scalar (codes "String") (with_scalar (codes "Float") (with_scalar (codes "Int") types))))

-- all types of a text
abbrev pub types_of : List ItemTree → List NamedKind
types_of items = with_built_ins (types_defined items)

abbrev pub kind_or_scalar : Option NamedKind → Kind
kind_or_scalar None = Scalar
kind_or_scalar (Some t) = t.kind

-- the kind of the type of this name
abbrev pub kind_named : List NamedKind → List ℕ → Kind
kind_named types name = kind_or_scalar (first_of_name name_of types name)
