-- A checked schema, as contracts see it. Types and fields stand at their numbers.
use Rattle.std.specs.Prelude.{◌≡◌, ◌<◌, ℕ, ◌+◌, ℤ, Bool, true, false, ◌||◌, nat_eq, List, [], ◌∷◌, length, get_or, Option, None, Some, codes, if◌then◌else◌}
use Rattle.std.specs.List.{list_any}
use Rattle.gql_base.specs.names.Names.{first_of_name, place_of_name}
use Rattle.input_values.specs.inputs.Shapes.{ShapeTree}
use Rattle.input_values.specs.inputs.Definitions.{InputData}
use Rattle.schema_rules.specs.declared.kind.Kind.{Kind}
use Rattle.schema_rules.specs.declared.kind.Kind.TheVariants.{Scalar, Object, Interface, Union, Enum, Input}
use Rattle.schema_rules.specs.Kinds.{is_object}

-- what `@listSize` says
pub record SizeData : Type 0 where
  pub assumed : Option ℤ
  pub slicing : List (List ℕ)
  pub sized : List (List ℕ)
  pub require_one : Bool

pub record FieldData : Type 0 where
  pub name : List ℕ
  pub owner : ℕ
  pub shape : ShapeTree
  pub arguments : List InputData
  pub cost : Option (List ℕ)
  pub size : Option SizeData

-- a type, with the names and the numbers of its fields, and the numbers of its interfaces and of a union's members
pub record TypeData : Type 0 where
  pub name : List ℕ
  pub kind : Kind
  pub names : List (List ℕ)
  pub fields : List ℕ
  pub interfaces : List ℕ
  pub members : List ℕ
  pub values : List (List ℕ)
  pub inputs : List InputData
  pub cost : Option (List ℕ)
  -- whether it is a scalar that may hold numbers that aren't whole
  pub lax : Bool

pub record SchemaData : Type 0 where
  pub types : List TypeData
  pub fields : List FieldData
  -- what stands at other numbers
  pub other_type : TypeData
  pub other_field : FieldData
  pub directives : List (List ℕ)
  -- how many of the types the text defines
  pub defined : ℕ
  pub query : ℕ
  pub mutation : Option ℕ
  pub subscription : Option ℕ

abbrev pub type_at : SchemaData → ℕ → TypeData
type_at s number = get_or s.types number s.other_type

abbrev pub field_at : SchemaData → ℕ → FieldData
field_at s number = get_or s.fields number s.other_field

abbrev pub type_name_of : TypeData → List ℕ
type_name_of t = t.name

-- the number of the type of this name
abbrev pub type_named : SchemaData → List ℕ → Option ℕ
type_named s name = place_of_name type_name_of s.types name

-- whether the type Float may be used
abbrev pub lax_at : SchemaData → Option ℕ → Bool
lax_at s None = false
lax_at s (Some of) = (type_at s of).lax

abbrev pub takes_float : SchemaData → Bool
takes_float s = lax_at s (type_named s (codes "Float"))

-- whether some scalar may hold numbers that aren't whole, so that documents may have floats
abbrev pub has_lax : List TypeData → Bool
has_lax types = list_any (λ t. t.lax) types

abbrev pub has_floats : SchemaData → Bool
has_floats s = has_lax s.types || s.other_type.lax

abbrev pub number_at : List ℕ → Option ℕ → Option ℕ
number_at numbers None = None
number_at numbers (Some n) = Some (get_or numbers n 0)

abbrev pub same_text : List ℕ → List ℕ
same_text name = name

-- the number of the field of this name
abbrev pub field_named : SchemaData → ℕ → List ℕ → Option ℕ
field_named s of name = number_at (type_at s of).fields (place_of_name same_text (type_at s of).names name)

abbrev pub input_name : InputData → List ℕ
input_name i = i.name

-- the argument of this name, and the field of an input object
abbrev pub argument_named : SchemaData → ℕ → List ℕ → Option InputData
argument_named s of name = first_of_name input_name (field_at s of).arguments name

abbrev pub input_field_named : SchemaData → ℕ → List ℕ → Option InputData
input_field_named s of name = first_of_name input_name (type_at s of).inputs name

abbrev pub root_of : SchemaData → Bool → Option ℕ
root_of s true = s.mutation
root_of s false = Some s.query

-- whether a condition applies to an object type: it is that type, an interface that it implements, or a union of which it
-- is a member (GraphQL October 2021, 5.5.2.3)
abbrev pub applies_to : Kind → ℕ → ℕ → TypeData → TypeData → Bool
applies_to Object c o condition object = nat_eq c o
applies_to Interface c o condition object = list_any (nat_eq c) object.interfaces
applies_to Union c o condition object = list_any (nat_eq o) condition.members
applies_to Scalar c o condition object = false
applies_to Enum c o condition object = false
applies_to Input c o condition object = false

abbrev pub applies : SchemaData → ℕ → ℕ → Bool
applies s c o = applies_to (type_at s c).kind c o (type_at s c) (type_at s o)

-- the numbers of the types that pass a test, where the first has the number n
abbrev pub numbers_from : ℕ → (ℕ → TypeData → Bool) → List TypeData → List ℕ
numbers_from n test [] = []
numbers_from n test (t ∷ types) = if test n t then n ∷ numbers_from (n + 1) test types else numbers_from (n + 1) test types

abbrev pub is_possible : TypeData → ℕ → ℕ → TypeData → Bool
is_possible condition c o t = if is_object t.kind then applies_to condition.kind c o condition t else false

-- the object types to which a type applies, in the order of the schema
abbrev pub possible_types : List TypeData → ℕ → TypeData → List ℕ
possible_types types c condition = numbers_from 0 (is_possible condition c) types

-- the possible types of each type, where the first has the number n
abbrev pub all_possible : ℕ → List TypeData → List TypeData → List (List ℕ)
all_possible n all [] = []
all_possible n all (t ∷ types) = possible_types all n t ∷ all_possible (n + 1) all types

-- the object types of a composite type, in the order of the schema
abbrev pub possible : SchemaData → ℕ → List ℕ
possible s c = get_or (all_possible 0 s.types s.types) c []

-- Both are types of the schema, the second is an object type, and the first, as a condition, applies to it.
pub record IsPossibleType (s : SchemaData) (c o : ℕ) : Type 0 where
  pub condition : c < length s.types
  pub type : o < length s.types
  pub object : is_object (type_at s o).kind ≡ true
  pub applies_there : applies s c o ≡ true
