-- A field where it is selected for objects of an object type: what its value is, what it weighs, how long its lists are, and
-- what is refused (GraphQL October 2021, 6.4; IBM GraphQL Cost Directives Specification).
use Rattle.std.specs.Prelude.{ℕ, ℤ, Bool, true, false, not, ◌&&◌, is_some, List, [], ◌∷◌, option_map, Option, None, Some, Result, Ok, Err, if◌then◌else◌}
use Rattle.std.specs.List.{list_any}
use Rattle.std.specs.Str.{bytes_eq}
use Rattle.serde_json.specs.Data.{Data, boolean, number, string, unsigned}
use Rattle.serde_json.specs.Find.{as_integer}
use Rattle.serde_json.specs.Written.{has_float}
use Rattle.gql_base.specs.names.Names.{first_of_name}
use Rattle.gql_base.specs.parts.Values.{NamedValue}
use Rattle.gql_base.specs.parts.Ints.{is_int}
use Rattle.input_values.specs.inputs.Shapes.{ShapeTree, named_shape, list_shape, is_nullable}
use Rattle.input_values.specs.coercion.Given.{Given}
use Rattle.input_values.specs.coercion.Literals.{Environment, literal_given}
use Rattle.input_values.specs.coercion.Kinds.{scalar_kind}
use Rattle.input_values.specs.declared.inputs.types.InputKind.{InputKind}
use Rattle.input_values.specs.declared.inputs.types.InputKind.TheVariants.{Int, String, Boolean, Float, Id, Custom, Lax}
use Rattle.response_model.specs.Plan.{Form, single, listed, LeafType, type_name, numbered}
use Rattle.schema_rules.specs.declared.kind.Kind.{Kind}
use Rattle.schema_rules.specs.declared.kind.Kind.TheVariants.{Enum}
use Rattle.schema_rules.specs.Kinds.{is_object, is_output_only}
use Rattle.schema_model.specs.SchemaData.{TypeData, SchemaData, type_at, field_at, possible}
use Rattle.schema_model.specs.InputForms.{input_forms}
use Rattle.schema_model.specs.Arguments.{ArgData}
use Rattle.cost_directives.specs.declared.sizes.Size.{Size}
use Rattle.cost_directives.specs.declared.sizes.Size.TheVariants.{Any, At}
use Rattle.cost_directives.specs.declared.sizes.SizeFault.{SizeFault}
use Rattle.cost_directives.specs.Weights.{WeightsData, type_in, field_in, argument_cost_in, declared_size_in}
use Rattle.variable_coercion.specs.Refusals.{Refusal, all_in_order}
use Rattle.variable_coercion.specs.Arguments.{argument_answer}
use Rattle.document_rules.specs.Parts.{FragmentData}
use Rattle.document_rules.specs.Sites.{Meaning, no_position, no_such_field, name_of_type, known_field, is_composite, meaning_on, type_of_field, below_field}

-- What an operation is planned by.
pub record Setting : Type 0 where
  pub schema : SchemaData
  pub weights : WeightsData
  -- the values of the operation's variables, by their names
  pub values : Environment
  -- the fragments that the operation reaches, and no others
  pub fragments : List FragmentData

-- A field as it is written: its name and its arguments.
pub record FieldCall : Type 0 where
  pub name : List ℕ
  pub arguments : List NamedValue

-- ---- its value

abbrev pub form_of_shape : ShapeTree → Form
form_of_shape (named_shape of nullable) = single nullable
form_of_shape (list_shape item nullable) = listed nullable (is_nullable item)

-- The name of a type is one value that is never null.
abbrev pub form_of : SchemaData → Meaning → Form
form_of s (known_field field) = form_of_shape (field_at s field).shape
form_of s name_of_type = single false
form_of s no_such_field = single true
form_of s no_position = single true

-- What may stand at a field: a leaf of a type, with the type's weight and the value that fills it, or an object of one of
-- these types.
pub data Place : Type 0 where
  leaf_place : (type : LeafType) → (weight : ℕ) → (fill : Data) → Place
  object_place : (possible : List ℕ) → Place

-- the value that fills a leaf: 0, the empty string or false, and the first name of an enum
abbrev pub scalar_fill : InputKind → Data
scalar_fill String = string []
scalar_fill Id = string []
scalar_fill Boolean = boolean false
scalar_fill kind = number (unsigned 0)

abbrev pub first_name : List (List ℕ) → List ℕ
first_name [] = []
first_name (name ∷ names) = name

abbrev pub fill_by : Kind → TypeData → Data
fill_by Enum t = string (first_name t.values)
fill_by kind t = scalar_fill (scalar_kind t.lax t.name)

abbrev pub fill_of : SchemaData → ℕ → Data
fill_of s of = fill_by (type_at s of).kind (type_at s of)

-- a whole number, and an Int
abbrev pub is_some_int : Option ℤ → Bool
is_some_int None = false
is_some_int (Some z) = is_int z

-- What a scalar holds (GraphQL October 2021, 3.5). A custom scalar holds every value whose numbers are whole; a lax one holds every value.
abbrev pub scalar_holds : InputKind → Data → Bool
scalar_holds Int (number n) = is_some_int (as_integer n)
scalar_holds String (string text) = true
scalar_holds Boolean (boolean b) = true
scalar_holds Float (number n) = true
scalar_holds Id (string text) = true
scalar_holds Id (number n) = is_some (as_integer n)
scalar_holds Custom json = not (has_float json)
scalar_holds Lax json = true
scalar_holds kind json = false

abbrev pub enum_holds : List (List ℕ) → Data → Bool
enum_holds names (string text) = list_any (bytes_eq text) names
enum_holds names json = false

abbrev pub holds_by : Kind → TypeData → Data → Bool
holds_by Enum t json = enum_holds t.values json
holds_by kind t json = scalar_holds (scalar_kind t.lax t.name) json

-- whether a leaf of the type of this number holds a JSON value
unfoldable pub holds : SchemaData → ℕ → Data → Bool
holds s of json = holds_by (type_at s of).kind (type_at s of) json

abbrev pub leaf_of : Setting → ℕ → Place
leaf_of e of = leaf_place (numbered of) (type_in e.weights of).weight (fill_of e.schema of)

abbrev pub place_of_type : Setting → ℕ → Place
place_of_type e of = if is_composite e.schema of then object_place (possible e.schema of) else leaf_of e of

-- at objects of the type T
abbrev pub place_of : Setting → ℕ → Meaning → Place
place_of e T (known_field field) = place_of_type e (type_of_field e.schema field)
place_of e T name_of_type = leaf_place type_name 0 (string (type_at e.schema T).name)
place_of e T no_such_field = object_place []
place_of e T no_position = object_place []

abbrev pub types_of : Place → List ℕ
types_of (leaf_place type weight fill) = []
types_of (object_place possible) = possible

-- whether no object can stand there, and no leaf
abbrev pub lacks_types : Place → Bool
lacks_types (leaf_place type weight fill) = false
lacks_types (object_place []) = true
lacks_types (object_place (T ∷ possible)) = false

-- ---- its arguments

abbrev pub argument_name : NamedValue → List ℕ
argument_name a = a.0.0

-- the first argument that is written under a name
abbrev pub given_under : Environment → List NamedValue → List ℕ → Option Given
given_under values written name = option_map (λ a. literal_given values a.1) (first_of_name argument_name written name)

-- the coerced arguments of a field, in the order of their definitions
unfoldable pub coerced_arguments : SchemaData → ℕ → List NamedValue → Environment → Result (List ArgData) Refusal
coerced_arguments s field written values = all_in_order (λ i. argument_answer (input_forms s) i (given_under values written i.name)) (field_at s field).arguments

abbrev pub arguments_of : Setting → Meaning → List NamedValue → Result (List ArgData) Refusal
arguments_of e (known_field field) written = coerced_arguments e.schema field written e.values
arguments_of e name_of_type written = Ok []
arguments_of e no_such_field written = Ok []
arguments_of e no_position written = Ok []

abbrev pub if_coerced : Result (List ArgData) Refusal → List ArgData
if_coerced (Ok args) = args
if_coerced (Err refusal) = []

abbrev pub refusal_of : Result (List ArgData) Refusal → Option Refusal
refusal_of (Ok args) = None
refusal_of (Err refusal) = Some refusal

-- ---- its size

-- the size that a field hands down, with the names of the fields that take it
abbrev pub HandedSize : Type 0
HandedSize = Option (List (List ℕ) × ℕ)

abbrev pub handed_to : HandedSize → List ℕ → Option ℕ
handed_to None name = None
handed_to (Some h) name = if list_any (bytes_eq name) h.0 then Some h.1 else None

-- only a list takes it
abbrev pub handed_in : Form → HandedSize → List ℕ → Option ℕ
handed_in (single nullable) handed name = None
handed_in (listed nullable item_nullable) handed name = handed_to handed name

abbrev pub size_answer : Setting → Meaning → List ArgData → Option ℕ → Result Size SizeFault
size_answer e (known_field field) args handed = declared_size_in e.weights field args handed
size_answer e name_of_type args handed = Ok Any
size_answer e no_such_field args handed = Ok Any
size_answer e no_position args handed = Ok Any

-- the length of a list, where it isn't free
abbrev pub length_in : Result Size SizeFault → Option ℕ
length_in (Ok Any) = None
length_in (Ok (At size)) = Some size
length_in (Err fault) = Some 0

abbrev pub size_in : Form → Result Size SizeFault → Option ℕ
size_in (single nullable) answer = None
size_in (listed nullable item_nullable) answer = length_in answer

abbrev pub fault_in : Result Size SizeFault → Option SizeFault
fault_in (Ok size) = None
fault_in (Err fault) = Some fault

-- the names of the fields below to which it hands its size (`sizedFields`)
abbrev pub sized_by : Setting → Meaning → List (List ℕ)
sized_by e (known_field field) = (field_in e.weights field).size.sized
sized_by e name_of_type = []
sized_by e no_such_field = []
sized_by e no_position = []

-- ---- its weight, and what its arguments cost

abbrev pub meaning_weight : Setting → Meaning → ℕ
meaning_weight e (known_field field) = (field_in e.weights field).weight
meaning_weight e name_of_type = 0
meaning_weight e no_such_field = 0
meaning_weight e no_position = 0

abbrev pub cost_of : Setting → Meaning → List ArgData → ℕ
cost_of e (known_field field) args = argument_cost_in e.weights field args
cost_of e name_of_type args = 0
cost_of e no_such_field args = 0
cost_of e no_position args = 0

-- ---- a field for objects of the type T, by its own definition in that type

module _ (e : Setting) (T : ℕ) (c : FieldCall) where
  abbrev pub meaning_at : Meaning
  meaning_at = meaning_on e.schema (Some T) c.name

  unfoldable pub form_at : Form
  form_at = form_of e.schema meaning_at

  unfoldable pub place_at : Place
  place_at = place_of e T meaning_at

  unfoldable pub arguments_at : Result (List ArgData) Refusal
  arguments_at = arguments_of e meaning_at c.arguments

  unfoldable pub size_answer_at : HandedSize → Result Size SizeFault
  size_answer_at handed = size_answer e meaning_at (if_coerced arguments_at) (handed_in form_at handed c.name)

  unfoldable pub size_at : HandedSize → Option ℕ
  size_at handed = size_in form_at (size_answer_at handed)

  -- What is handed down is found without a size from above.
  unfoldable pub hands_at : HandedSize
  hands_at = option_map (λ size. (sized_by e meaning_at, size)) (length_in (size_answer_at None))

  unfoldable pub weight_at : ℕ
  weight_at = meaning_weight e meaning_at

  unfoldable pub cost_at : ℕ
  cost_at = cost_of e meaning_at (if_coerced arguments_at)

-- ---- a field by the type on which it is written

-- the type of a number, and whether it is an interface or a union
abbrev pub is_abstract : SchemaData → Option ℕ → Bool
is_abstract s None = false
is_abstract s (Some of) = is_output_only (type_at s of).kind && not (is_object (type_at s of).kind)

-- the type on which the selections below it are written
unfoldable pub written_below : SchemaData → Option ℕ → FieldCall → Option ℕ
written_below s parent c = below_field s (meaning_on s parent c.name)

-- whether its declared type is an interface or a union
unfoldable pub is_asked : SchemaData → Option ℕ → FieldCall → Bool
is_asked s parent c = is_abstract s (written_below s parent c)
