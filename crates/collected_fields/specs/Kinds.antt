-- Types of objects between which the conditions of an operation make no difference.
use Rattle.std.specs.Prelude.{◌≡◌, ◌⊎◌, ℕ, true, List, map, get_or, option_map, Option, None, Some}
use Rattle.input_values.specs.declared.inputs.shape.TypeId.{TypeId}
use Rattle.schema_model.specs.Numbers.{type_number}
use Rattle.schema_model.specs.SchemaData.{SchemaData, applies}
use Rattle.schema_model.specs.SchemaViews.{schema_data}
use Rattle.plan_model.specs.Collecting.{applies_where}
use Rattle.collected_fields.specs.declared.kinds.Kinds.{Kinds}
use Rattle.collected_fields.specs.declared.tables.Tables.{Tables}
use Rattle.collected_fields.specs.Prepared.{ListData, EntryData, list_data, entry_data}
use Rattle.collected_fields.specs.Steps.{StepData, Each, SameStep, SameSteps}

-- The selection sets' conditions apply to both types, or to neither.
abbrev pub SameLists : SchemaData → ℕ → ℕ → List ListData → Type 0
SameLists s T U lists = Each (λ l. SameSteps s T U l.steps) lists

-- the same of fragments
abbrev pub SameEntries : SchemaData → ℕ → ℕ → List EntryData → Type 0
SameEntries s T U entries = Each (λ entry. applies_where s T entry.0 ≡ applies_where s U entry.0) entries

-- the same of all of an operation
pub record AreOfOneKind (t : Tables) (T U : ℕ) : Type 0 where
  pub lists : SameLists (schema_data t.planning.schema.now) T U (map list_data t.lists.items)
  pub entries : SameEntries (schema_data t.planning.schema.now) T U (map entry_data t.entries.items)

-- the same of conditions that are listed
abbrev pub AreAlike : SchemaData → ℕ → ℕ → List ℕ → Type 0
AreAlike s T U conditions = Each (λ on. applies s on T ≡ applies s on U) conditions

-- ---- conditions that are listed

-- Where the new ones make no difference, the old ones make none, and this is so.
abbrev pub Adds : List TypeId → List TypeId → (SchemaData → ℕ → ℕ → Type 0) → Type 0
Adds old new Same = (s : SchemaData) (T U : ℕ) → AreAlike s T U (map type_number new) → AreAlike s T U (map type_number old) × Same s T U

abbrev pub AddsCondition : List TypeId → List TypeId → ℕ → Type 0
AddsCondition old new on = Adds old new (λ s T U. applies s on T ≡ applies s on U)

abbrev pub AddsStep : List TypeId → List TypeId → StepData → Type 0
AddsStep old new x = Adds old new (λ s T U. SameStep s T U x)

abbrev pub AddsSteps : List TypeId → List TypeId → List StepData → Type 0
AddsSteps old new xs = Adds old new (λ s T U. SameSteps s T U xs)

abbrev pub AddsLists : List TypeId → List TypeId → List ListData → Type 0
AddsLists old new lists = Adds old new (λ s T U. SameLists s T U lists)

abbrev pub AddsEntry : List TypeId → List TypeId → EntryData → Type 0
AddsEntry old new entry = Adds old new (λ s T U. applies_where s T entry.0 ≡ applies_where s U entry.0)

abbrev pub AddsEntries : List TypeId → List TypeId → List EntryData → Type 0
AddsEntries old new entries = Adds old new (λ s T U. SameEntries s T U entries)

-- All conditions of the operation are among these.
abbrev pub Covers : Tables → List TypeId → Type 0
Covers t conditions = (T U : ℕ) → AreAlike (schema_data t.planning.schema.now) T U (map type_number conditions) → AreOfOneKind t T U

-- ---- what was found

-- the type that stands for a type
abbrev pub stand_in_of : Kinds → ℕ → Option ℕ
stand_in_of k T = option_map type_number (get_or k.stand_ins.items T None)

-- Types that stand for others are of their kind.
pub record KnowsKinds (t : Tables) (k : Kinds) : Type 0 where
  pub covers : k.begun ≡ true → Covers t k.conditions.items
  pub stand_ins : (T U : ℕ) → stand_in_of k T ≡ Some U → AreOfOneKind t T U

-- What stands for a type stood for it before, or is this for this one.
abbrev pub KeepsStandIn : Kinds → Kinds → ℕ → ℕ → Type 0
KeepsStandIn old new T U = (place other : ℕ) → stand_in_of new place ≡ Some other → (stand_in_of old place ≡ Some other) ⊎ ((place ≡ T) × (other ≡ U))

-- The same, where it is alike by the conditions.
abbrev pub FindsStandIn : SchemaData → Kinds → Kinds → ℕ → Type 0
FindsStandIn s old new T = (place other : ℕ) → stand_in_of new place ≡ Some other → (stand_in_of old place ≡ Some other) ⊎ ((place ≡ T) × AreAlike s T other (map type_number old.conditions.items))
