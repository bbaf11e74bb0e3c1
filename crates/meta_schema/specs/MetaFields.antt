-- What planning finds of the fields of the schema of schemas, by what it says of them.
use Rattle.std.specs.Prelude.{◌≡◌, ℕ, List, [], ◌∷◌, Bool, true, false, Option, Some, None, option_map, codes, nat_eq}
use Rattle.std.specs.List.{list_any}
use Rattle.serde_json.specs.Data.{Data, string}
use Rattle.cost_num.specs.declared.TheConstants.{UNIT}
use Rattle.response_model.specs.Plan.{LeafType, type_name, numbered}
use Rattle.input_values.specs.values.Coerced.{coerced_boolean}
use Rattle.input_values.specs.inputs.Shapes.{named_shape}
use Rattle.input_values.specs.inputs.Definitions.{InputData}
use Rattle.schema_model.specs.SchemaData.{SchemaData, type_at, field_at, field_named}
use Rattle.plan_model.specs.SelectedFields.{Setting, FieldCall, Place, leaf_place, object_place, lacks_types, fill_of, form_at, place_at, weight_at, cost_at, holds}
use Rattle.plan_model.specs.Plans.{type_weight}
use Rattle.asked_fields.specs.declared.asked.Argument.{Argument}
use Rattle.asked_fields.specs.Asked.{HasOneType}
use Rattle.schema_facts.specs.declared.table.What.{What}
use Rattle.schema_facts.specs.declared.table.What.TheVariants as what
use Rattle.meta_schema.specs.MetaTypes.{weight_of}
use Rattle.meta_schema.specs.MetaForms.{form_of, below_of, leaf_type_of, is_of, meta_name, holds as meta_holds}
use Rattle.meta_schema.specs.Fields.{what_asked}

-- the types of objects, and those of leaves
abbrev pub object_types : List ℕ
object_types = 0 ∷ 1 ∷ 2 ∷ 4 ∷ 5 ∷ 6 ∷ 7 ∷ []

abbrev pub leaf_types : List ℕ
leaf_types = 3 ∷ 8 ∷ 11 ∷ 12 ∷ []

abbrev pub IsObjectType : ℕ → Type 0
IsObjectType T = list_any (nat_eq T) object_types ≡ true

abbrev pub IsLeafType : ℕ → Type 0
IsLeafType T = list_any (nat_eq T) leaf_types ≡ true

-- ---- what may stand at a field

abbrev pub meta_fill : SchemaData → ℕ → LeafType → Data
meta_fill s T type_name = string (type_at s T).name
meta_fill s T (numbered of) = fill_of s of

abbrev pub place_by : SchemaData → ℕ → LeafType → Option ℕ → Place
place_by s T type None = leaf_place type 0 (meta_fill s T type)
place_by s T type (Some U) = object_place (U ∷ [])

-- at objects of the type T
abbrev pub meta_place : SchemaData → ℕ → What → Place
meta_place s T w = place_by s T (leaf_type_of w) (below_of w)

-- ---- the arguments of a field

abbrev pub input_with : List ℕ → ℕ → Bool → Option Bool → InputData
input_with name of nullable default = record { name = name; shape = named_shape of nullable; default = option_map coerced_boolean default; cost = None }

-- `name: String!`
abbrev pub name_argument : InputData
name_argument = input_with (codes "name") 11 false None

-- `includeDeprecated: Boolean = false`
abbrev pub deprecated_argument : InputData
deprecated_argument = input_with (codes "includeDeprecated") 12 true (Some false)

abbrev pub arguments_of : What → List InputData
arguments_of (what.Named of) = name_argument ∷ []
arguments_of (what.Fields all) = deprecated_argument ∷ []
arguments_of (what.EnumValues all) = deprecated_argument ∷ []
arguments_of other = []

-- ---- settings over it

-- A field of the objects of a type is what it asks: one that the type has, of its form, its weight and its place. What
-- its arguments come to costs nothing.
pub record IsMetaField (e : Setting) (T : ℕ) (c : FieldCall) (w : What) : Type 0 where
  pub own : is_of T w ≡ true
  pub form : form_at e T c ≡ form_of T w
  pub weight : weight_at e T c ≡ weight_of w
  pub arguments : cost_at e T c ≡ 0
  pub place : place_at e T c ≡ meta_place e.schema T w

-- The schema is the schema of schemas, whose type of queries has this name.
pub record HasMetaForm (query : List ℕ) (e : Setting) : Type 0 where
  pub root : e.schema.query ≡ 0
  pub one_type : HasOneType e
  -- where anything may stand at a field
  pub fields : (T : ℕ) (c : FieldCall) (a : Argument) → lacks_types (place_at e T c) ≡ false → IsMetaField e T c (what_asked c.name a)
  pub inputs : (T f : ℕ) (name : List ℕ) (a : Argument) → field_named e.schema T name ≡ Some f → (field_at e.schema f).arguments ≡ arguments_of (what_asked name a)
  pub weights : (T : ℕ) → IsObjectType T → type_weight e T ≡ UNIT
  pub names : (T : ℕ) → IsObjectType T → (type_at e.schema T).name ≡ meta_name query T
  pub leaves : (T : ℕ) (json : Data) → IsLeafType T → holds e.schema T json ≡ meta_holds T json
