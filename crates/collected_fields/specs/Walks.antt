-- The walk over steps, where each fragment is entered once.
use Rattle.std.specs.Prelude.{◌≡◌, ◌⊎◌, ℕ, zero, suc, Bool, true, false, List, [], ◌∷◌, ◌++◌, map, filter, get_or, slice_get, slice_set, option_map, Option, None, Some, Vec, if◌then◌else◌}
use Rattle.std.specs.declared.alloc.Global.{Global}
use Rattle.std.specs.BTreeMap.{get}
use Rattle.input_values.specs.defaults.Filling.{pair_cmp}
use Rattle.schema_model.specs.SchemaData.{SchemaData, applies}
use Rattle.schema_model.specs.SchemaViews.{schema_data}
use Rattle.plan_model.specs.Collecting.{CollectedField, applies_where}
use Rattle.plan_model.specs.Merging.{keys_of, has_key}
use Rattle.collected_fields.specs.declared.collected.Collected.{Collected}
use Rattle.collected_fields.specs.declared.state.Walk.{Walk}
use Rattle.collected_fields.specs.Views.{collected_field}
use Rattle.collected_fields.specs.Steps.{StepData, field_step, spread_step, inline_step}
use Rattle.collected_fields.specs.declared.tables.Tables.{Tables}
use Rattle.collected_fields.specs.declared.findings.Findings.{Findings}
use Rattle.collected_fields.specs.declared.reaching.Reaches.{Reaches}
use Rattle.collected_fields.specs.Reached.{found_of, is_missed}
use Rattle.collected_fields.specs.Prepared.{ListData, EntryData, list_data, entry_data, steps_in}

-- a field, and the number of its selections
abbrev pub NumberedField : Type 0
NumberedField = CollectedField × ℕ

abbrev pub numbered : Collected → NumberedField
numbered c = (collected_field c, c.below)

abbrev pub field_alone : NumberedField → CollectedField
field_alone f = f.0

-- which fragments were entered, and what was collected
pub record WalkData : Type 0 where
  pub marks : List Bool
  pub fields : List NumberedField

abbrev pub walk_data : Walk → WalkData
walk_data w = record { marks = w.marks.items; fields = map numbered w.fields.items }

abbrev pub is_marked : ℕ → WalkData → Bool
is_marked number w = get_or w.marks number false

abbrev pub marked : ℕ → WalkData → WalkData
marked number w = record w { marks = slice_set w.marks number true }

abbrev pub kept : NumberedField → WalkData → WalkData
kept f w = record w { fields = w.fields ++ (f ∷ []) }

-- Nothing was entered, and nothing collected.
abbrev pub IsBlank : WalkData → Type 0
IsBlank w = ((number : ℕ) → is_marked number w ≡ false) × (w.fields ≡ [])

-- fields that are put behind the others
abbrev pub taken : List NumberedField → WalkData → WalkData
taken fields w = record w { fields = w.fields ++ fields }

module _ (s : SchemaData) (T : ℕ) where
  -- behind as many steps as are passed over; `enter` walks the fragment of a number
  abbrev pub walk_steps : (ℕ → WalkData → WalkData) → ℕ → List StepData → WalkData → WalkData
  walk_steps enter skip [] w = w
  walk_steps enter (suc n) (x ∷ xs) w = walk_steps enter n xs w
  walk_steps enter zero (field_step f below ∷ xs) w = walk_steps enter zero xs (kept (f, below) w)
  walk_steps enter zero (spread_step number ∷ xs) w = walk_steps enter zero xs (enter number w)
  walk_steps enter zero (inline_step on count ∷ xs) w = walk_steps enter (if applies s on T then 0 else count) xs w

  -- `steps` are those of the selection set of a number
  module _ (steps : ℕ → List StepData) where
    abbrev pub walk_sets : (ℕ → WalkData → WalkData) → List ℕ → WalkData → WalkData
    walk_sets enter [] w = w
    walk_sets enter (number ∷ numbers) w = walk_sets enter numbers (walk_steps enter 0 (steps number) w)

    -- Where it is kept what selection sets come to, that is taken.
    abbrev pub walk_known : (ℕ → WalkData → WalkData) → Option (List NumberedField) → List ℕ → WalkData → WalkData
    walk_known enter None sets w = walk_sets enter sets w
    walk_known enter (Some fields) sets w = taken fields w

    -- `known` is what is kept for a number
    module _ (known : ℕ → Option (List NumberedField)) (entries : List EntryData) where
      abbrev pub walk_entry : (ℕ → WalkData → WalkData) → Option EntryData → WalkData → WalkData
      walk_entry enter None w = w
      walk_entry enter (Some entry) w = if applies_where s T entry.0 then walk_known enter (known entry.1) (entry.1 ∷ []) w else w

      -- a fragment that was entered is passed over
      unfoldable pub walk_fragment : ℕ → ℕ → WalkData → WalkData
      walk_fragment zero number w = w
      walk_fragment (suc depth) number w = if is_marked number w then w else walk_entry (walk_fragment depth) (slice_get entries number) (marked number w)

      -- `sets` are the selection sets of a number; a number is passed over where the test holds of it
      abbrev pub walk_numbers : (ℕ → Bool) → (ℕ → List ℕ) → ℕ → List ℕ → WalkData → WalkData
      walk_numbers passed sets depth [] w = w
      walk_numbers passed sets depth (number ∷ numbers) w = walk_numbers passed sets depth numbers (if passed number then w else walk_known (walk_fragment depth) (known number) (sets number) w)

-- ---- groups

-- the fields of a key
abbrev pub numbered_of_key : List ℕ → List NumberedField → List NumberedField
numbered_of_key key fields = filter (λ f. has_key key f.0) fields

-- the fields of each key, in the order in which the keys first stand
abbrev pub numbered_by_key : List NumberedField → List (List NumberedField)
numbered_by_key fields = map (λ key. filter (λ f. has_key key f.0) fields) (keys_of (map field_alone fields))

abbrev pub numbered_group : Vec Collected Global → List NumberedField
numbered_group g = map numbered g.items

-- ---- by the tables of a program, for objects of the type T, where fragments are entered to a depth

-- the steps of the selection set of a number
abbrev pub steps_at : List ListData → ℕ → List StepData
steps_at lists number = steps_in (slice_get lists number)

abbrev pub fields_kept : Option (Vec Collected Global) → Option (List NumberedField)
fields_kept o = option_map numbered_group o

-- what is kept for a number and the type T
abbrev pub found_in : Findings → ℕ → ℕ → Option (List NumberedField)
found_in k T number = fields_kept (get pair_cmp k.fields (number, T))

-- What is kept then was kept before, or is what this number comes to for the type T.
abbrev pub KeepsOne : Findings → Findings → ℕ → ℕ → List NumberedField → Type 0
KeepsOne old new T number fields = (U place : ℕ) (found : List NumberedField) → found_in new U place ≡ Some found → (found_in old U place ≡ Some found) ⊎ ((U ≡ T) × (place ≡ number) × (found ≡ fields))

-- the same, where it is known that something is kept for the number
abbrev pub known_for : Findings → ℕ → ℕ → Option (List NumberedField)
known_for k T number = if get_or k.known.items number false then found_in k T number else None

-- the steps of selection sets, and none where a test holds of their numbers
abbrev pub steps_unless : (ℕ → Bool) → (ℕ → List StepData) → ℕ → List StepData
steps_unless out steps number = if out number then [] else steps number

module _ (t : Tables) (k : Findings) (r : Reaches) (T : ℕ) (depth : ℕ) where
  -- A selection set has none where it was found that it has no fields for objects of the type.
  abbrev pub list_steps : ℕ → List StepData
  list_steps = steps_unless (λ number. is_missed (found_of r number) T) (steps_at (map list_data t.lists.items))

  abbrev pub enter_in : ℕ → WalkData → WalkData
  enter_in = walk_fragment (schema_data t.planning.schema.now) T list_steps (known_for k T) (map entry_data t.entries.items) depth

  abbrev pub steps_from : ℕ → List StepData → WalkData → WalkData
  steps_from = walk_steps (schema_data t.planning.schema.now) T enter_in

  -- One step was taken: behind as many as are passed over the walk comes to what it comes to from before the step.
  abbrev pub TakesStep : StepData → WalkData → WalkData → ℕ → Type 0
  TakesStep x old new skip = (others : List StepData) → steps_from skip others new ≡ steps_from 0 (x ∷ others) old

  abbrev pub sets_in : List ℕ → WalkData → WalkData
  sets_in = walk_sets (schema_data t.planning.schema.now) T list_steps enter_in

  abbrev pub known_in : ℕ → List ℕ → WalkData → WalkData
  known_in number sets = walk_known (schema_data t.planning.schema.now) T list_steps enter_in (known_for k T number) sets

  abbrev pub entry_in : ℕ → WalkData → WalkData
  entry_in number = walk_entry (schema_data t.planning.schema.now) T list_steps (known_for k T) (map entry_data t.entries.items) enter_in (slice_get (map entry_data t.entries.items) number)

  -- where it was found of lists too for which types they have no fields
  abbrev pub numbers_in : Reaches → (ℕ → List ℕ) → List ℕ → WalkData → WalkData
  numbers_in lists sets = walk_numbers (schema_data t.planning.schema.now) T list_steps (known_for k T) (map entry_data t.entries.items) (λ number. is_missed (found_of lists number) T) sets depth
