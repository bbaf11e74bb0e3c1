-- The types of a schema text, with numbers in place of names: the types that it defines, in their order, and then the
-- built-in scalars that it doesn't define.
use Rattle.std.specs.Prelude.{ℕ, Bool, true, false, List, [], ◌∷◌, ◌++◌, map, length, drop, Option, None, Some}
use Rattle.std.specs.List.{flat_map}
use Rattle.gql_base.specs.names.Names.{place_of_name}
use Rattle.gql_base.specs.parts.Values.{ValueTree, NamedValue}
use Rattle.gql_base.specs.parts.TypeReferences.{TypeTree}
use Rattle.input_values.specs.inputs.Shapes.{ShapeTree, shape_by}
use Rattle.schema_reader.specs.Schemas.{NameText, InputDefTree, FieldDefTree, EnumValueTree, BodyTree, schema_body, scalar_body, object_body, interface_body, union_body, enum_body, input_body, directive_body, DefinitionTree}
use Rattle.schema_rules.specs.declared.kind.Kind.{Kind}
use Rattle.schema_rules.specs.declared.kind.Kind.TheVariants.{Scalar, Object, Interface, Union, Enum, Input}
use Rattle.schema_rules.specs.TypeNames.{NamedKind, name_of}
use Rattle.schema_rules.specs.DirectiveUses.{given_weight, is_lax, size_arguments}

pub record InputDraft : Type 0 where
  pub name : List ℕ
  pub shape : ShapeTree
  pub default : Option ValueTree
  pub cost : Option (List ℕ)

pub record FieldDraft : Type 0 where
  pub name : List ℕ
  pub shape : ShapeTree
  pub arguments : List InputDraft
  pub cost : Option (List ℕ)
  pub size : Option (List NamedValue)

pub record TypeDraft : Type 0 where
  pub name : List ℕ
  pub kind : Kind
  pub interfaces : List ℕ
  pub members : List ℕ
  pub fields : List FieldDraft
  pub values : List (List ℕ)
  pub inputs : List InputDraft
  pub cost : Option (List ℕ)
  -- whether it is a scalar that has `@floats`
  pub lax : Bool

abbrev pub or_past : {A : Type 0} → List A → Option ℕ → ℕ
or_past all None = length all
or_past all (Some n) = n

-- the number of the type of this name, or the number of all types where none has it
abbrev pub number_named : List NamedKind → List ℕ → ℕ
number_named types name = or_past types (place_of_name name_of types name)

-- a type with numbers in place of names: without a `!` null may stand there
abbrev pub shape_of : List NamedKind → TypeTree → ShapeTree
shape_of types t = shape_by (number_named types) true t

abbrev pub input_draft : List NamedKind → InputDefTree → InputDraft
input_draft types i = record { name = i.1; shape = shape_of types i.2; default = i.3; cost = given_weight i.4 }

abbrev pub field_draft : List NamedKind → FieldDefTree → FieldDraft
field_draft types f = record { name = f.1; shape = shape_of types f.3; arguments = map (input_draft types) f.2; cost = given_weight f.4; size = size_arguments f.4 }

abbrev pub value_name : EnumValueTree → List ℕ
value_name v = v.1.0

-- a type that has nothing but its name, its kind and its weight, and may be lax
abbrev pub bare : List ℕ → Kind → Option (List ℕ) → Bool → TypeDraft
bare name kind cost lax = record { name = name; kind = kind; interfaces = []; members = []; fields = []; values = []; inputs = []; cost = cost; lax = lax }

abbrev pub fielded : List NamedKind → List ℕ → Kind → Option (List ℕ) → List NameText → List FieldDefTree → TypeDraft
fielded types name kind cost interfaces fields = record { name = name; kind = kind; interfaces = map (number_named types) interfaces; members = []; fields = map (field_draft types) fields; values = []; inputs = []; cost = cost; lax = false }

abbrev pub union_draft : List ℕ → Option (List ℕ) → List ℕ → TypeDraft
union_draft name cost members = record { name = name; kind = Union; interfaces = []; members = members; fields = []; values = []; inputs = []; cost = cost; lax = false }

abbrev pub enum_draft : List ℕ → Option (List ℕ) → List EnumValueTree → TypeDraft
enum_draft name cost values = record { name = name; kind = Enum; interfaces = []; members = []; fields = []; values = map value_name values; inputs = []; cost = cost; lax = false }

abbrev pub object_draft : List ℕ → Option (List ℕ) → List InputDraft → TypeDraft
object_draft name cost inputs = record { name = name; kind = Input; interfaces = []; members = []; fields = []; values = []; inputs = inputs; cost = cost; lax = false }

-- the type that a body defines, if it defines one
abbrev pub body_draft : List NamedKind → List ℕ → Option (List ℕ) → Bool → BodyTree → List TypeDraft
body_draft types name cost lax (schema_body roots) = []
body_draft types name cost lax scalar_body = bare name Scalar cost lax ∷ []
body_draft types name cost lax (object_body interfaces fields) = fielded types name Object cost interfaces fields ∷ []
body_draft types name cost lax (interface_body interfaces fields) = fielded types name Interface cost interfaces fields ∷ []
body_draft types name cost lax (union_body members) = union_draft name cost (map (number_named types) members) ∷ []
body_draft types name cost lax (enum_body values) = enum_draft name cost values ∷ []
body_draft types name cost lax (input_body fields) = object_draft name cost (map (input_draft types) fields) ∷ []
body_draft types name cost lax (directive_body arguments repeatable locations) = []

abbrev pub definition_draft : List NamedKind → DefinitionTree → List TypeDraft
definition_draft types d = body_draft types d.1.0 (given_weight d.1.1) (is_lax d.1.1) d.1.2

abbrev pub scalar_draft : NamedKind → TypeDraft
scalar_draft t = bare t.name Scalar None false

-- the types that a text defines
abbrev pub defined_drafts : List NamedKind → List DefinitionTree → List TypeDraft
defined_drafts types text = flat_map (definition_draft types) text

abbrev pub with_scalars : List NamedKind → List TypeDraft → List TypeDraft
with_scalars types drafts = drafts ++ map scalar_draft (drop (length drafts) types)

-- all types of a text, where these are their names
abbrev pub drafts_of : List NamedKind → List DefinitionTree → List TypeDraft
drafts_of types text = with_scalars types (defined_drafts types text)
