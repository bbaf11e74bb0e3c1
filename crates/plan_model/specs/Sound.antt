-- What a schema and its weights keep, so that plans are sound.
use Rattle.std.specs.Prelude.{◌≡◌, ℕ, List, [], ◌∷◌, false, Option, None, Some}
use Rattle.response_model.specs.Plan.{Form, single, listed}
use Rattle.response_model.specs.Response.{is_null, IsLeafOf}
use Rattle.schema_rules.specs.declared.kind.Kind.{Kind}
use Rattle.schema_rules.specs.declared.kind.Kind.TheVariants.{Enum, Scalar}
use Rattle.schema_model.specs.SchemaData.{TypeData, SchemaData, type_at, field_named}
use Rattle.cost_directives.specs.Weights.{weights_of}
use Rattle.document_rules.specs.Sites.{is_composite, type_of_field}
use Rattle.plan_model.specs.SelectedFields.{Setting, FieldCall, HandedSize, Place, leaf_place, object_place, holds, form_at, place_at, size_at}
use Rattle.plan_model.specs.Responses.{is_among}

-- no number stands twice
abbrev pub AreDistinct : List ℕ → Type 0
AreDistinct [] = Unit {0}
AreDistinct (T ∷ Ts) = (is_among T Ts ≡ false) × AreDistinct Ts

-- What fills a leaf may stand in it, and each possible type stands once.
abbrev pub IsSoundPlace : Setting → Place → Type 0
IsSoundPlace e (leaf_place type weight fill) = (is_null fill ≡ false) × IsLeafOf (holds e.schema) type fill fill
IsSoundPlace e (object_place Ts) = AreDistinct Ts

-- Only lists of leaves that weigh nothing may have any length.
abbrev pub IsCountablePlace : Form → Option ℕ → Place → Type 0
IsCountablePlace (single nullable) size place = Unit {0}
IsCountablePlace (listed nullable item_nullable) (Some size) place = Unit {0}
IsCountablePlace (listed nullable item_nullable) None (leaf_place type weight fill) = weight ≡ 0
IsCountablePlace (listed nullable item_nullable) None (object_place Ts) = ⊥

-- So it is of every field for objects of every type.
pub record IsSoundSetting (e : Setting) : Type 0 where
  pub places : (T : ℕ) (c : FieldCall) → IsSoundPlace e (place_at e T c)
  pub lists : (T : ℕ) (c : FieldCall) (handed : HandedSize) → IsCountablePlace (form_at e T c) (size_at e T c handed) (place_at e T c)

-- A leaf can be filled where it is an enum that has a name, or a scalar.
abbrev pub HasName : List (List ℕ) → Type 0
HasName [] = ⊥
HasName (name ∷ names) = Unit {0}

abbrev pub CanFill : Kind → TypeData → Type 0
CanFill Enum t = HasName t.values
CanFill Scalar t = Unit {0}
CanFill kind t = ⊥

-- So it is of the leaves that the fields of types return.
abbrev pub CanBeFilled : SchemaData → Type 0
CanBeFilled s =
    (T : ℕ) (name : List ℕ) (field : ℕ) → field_named s T name ≡ Some field → is_composite s (type_of_field s field) ≡ false → CanFill (type_at s (type_of_field s field)).kind (type_at s (type_of_field s field))

-- The weights are those of the schema, where lists that declare no size have this one, and leaves can be filled.
pub record IsOfSchema (undeclared : ℕ) (e : Setting) : Type 0 where
  pub weights : e.weights ≡ weights_of e.schema undeclared
  pub fills : CanBeFilled e.schema
