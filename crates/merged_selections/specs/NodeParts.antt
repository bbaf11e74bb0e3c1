-- What is looked up of a field, as definitions see it.
use Rattle.std.specs.Prelude.{◌≡◌, ℕ, Bool, true, false, ◌&&◌, nat_eq, List, [], ◌∷◌, map, option_map, Option, None, Some, Vec}
use Rattle.std.specs.declared.alloc.Global.{Global}
use Rattle.std.specs.List.{list_any}
use Rattle.response_model.specs.Plan.{Form, single, listed}
use Rattle.input_values.specs.declared.inputs.shape.TypeId.{TypeId}
use Rattle.schema_model.specs.Numbers.{type_number}
use Rattle.schema_model.specs.SchemaData.{SchemaData, possible}
use Rattle.schema_model.specs.declared.entries.FieldId.{FieldId}
use Rattle.document_rules.specs.Sites.{Meaning as MeaningData, name_of_type, known_field, no_such_field, is_composite, type_of_field}
use Rattle.plan_model.specs.SelectedFields.{HandedSize, form_of}
use Rattle.collected_fields.specs.Reached.{IsObjectType}
use Rattle.merged_selections.specs.declared.lookups.Meaning.{Meaning}
use Rattle.merged_selections.specs.declared.lookups.Meaning.TheVariants.{NameOfType, Known, NoSuchField}
use Rattle.merged_selections.specs.declared.lookups.Handed.{Handed}

abbrev pub meaning_seen : Meaning → MeaningData
meaning_seen NameOfType = name_of_type
meaning_seen (Known field) = known_field field.number
meaning_seen NoSuchField = no_such_field

abbrev pub is_listed : Form → Bool
is_listed (single nullable) = false
is_listed (listed nullable item_nullable) = true

abbrev pub has_lists : SchemaData → ℕ → Bool
has_lists s field = is_listed (form_of s (known_field field))

abbrev pub one_handed : Handed → List (List ℕ) × ℕ
one_handed h = (h.sized.now, h.size)

abbrev pub handed_data : Option Handed → HandedSize
handed_data handed = option_map one_handed handed

abbrev pub when_true : Bool → List ℕ → List ℕ
when_true true Ts = Ts
when_true false Ts = []

-- the types of the objects that may stand at a field
abbrev pub types_below : SchemaData → ℕ → List ℕ
types_below s field = when_true (is_composite s (type_of_field s field)) (possible s (type_of_field s field))

abbrev pub is_none : List ℕ → Bool
is_none [] = true
is_none (T ∷ Ts) = false

abbrev pub lacks_types_below : SchemaData → ℕ → Bool
lacks_types_below s field = is_composite s (type_of_field s field) && is_none (possible s (type_of_field s field))

-- the types of the objects that may stand at a field, or at `__typename`
abbrev pub types_at : SchemaData → Option FieldId → List ℕ
types_at s None = []
types_at s (Some field) = types_below s field.number

-- the types that are left of some, or all of them where none are left out
abbrev pub types_left : Option (Vec TypeId Global) → List TypeId → List TypeId
types_left None types = types
types_left (Some left) types = left.items

-- They are types of objects.
abbrev pub AreObjectTypes : SchemaData → List TypeId → Type 0
AreObjectTypes s types = (T : ℕ) → list_any (nat_eq T) (map type_number types) ≡ true → IsObjectType s T
