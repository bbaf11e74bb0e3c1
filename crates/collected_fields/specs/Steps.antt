-- The steps of a walk over a selection set, and the fields to which they come.
use Rattle.std.specs.Prelude.{◌≡◌, ◌<◌, ℕ, zero, suc, List, [], ◌∷◌, ◌++◌, slice_get, Option, None, Some, if◌then◌else◌}
use Rattle.std.specs.Borrow.{Bor}
use Rattle.std.specs.BTreeMap.{BTreeMap}
use Rattle.gql_base.specs.names.Indexes.{at_name}
use Rattle.document_reader.specs.declared.trees.Field.{Field as FieldOf}
use Rattle.document_reader.specs.Documents.{SelectionTree}
use Rattle.document_reader.specs.DocumentReading.{selections_from}
use Rattle.schema_model.specs.SchemaData.{SchemaData, applies}
use Rattle.document_rules.specs.Parts.{FragmentData, fragment_name}
use Rattle.plan_model.specs.SelectedFields.{Setting}
use Rattle.plan_model.specs.Collecting.{CollectedField, fragment_named, fields_in}
use Rattle.plan_model.specs.MergingWalk.{AreRanked}
use Rattle.plan_model.specs.Repeats.{Holds, IsThinned}
use Rattle.collected_fields.specs.declared.steps.Step.{Step}
use Rattle.collected_fields.specs.declared.steps.Step.TheVariants.{Field, Spread, Inline}
use Rattle.collected_fields.specs.Views.{written_field, collected_field}

pub data StepData : Type 0 where
  -- a field, and the number of its selections
  field_step : CollectedField → ℕ → StepData
  -- the fragment of a number
  spread_step : ℕ → StepData
  -- so many of the next steps are for objects alone to which a type applies
  inline_step : (on : ℕ) → (count : ℕ) → StepData

abbrev pub step_data : Step → StepData
step_data (Field f) = field_step (collected_field f) f.below
step_data (Spread number) = spread_step number
step_data (Inline on count) = inline_step on.number count

-- The fields to which steps come, behind as many as are passed over; `spread` gives those of the fragment of a number.
module _ (s : SchemaData) (T : ℕ) (spread : ℕ → List CollectedField) where
  abbrev pub fields_of_steps : ℕ → List StepData → List CollectedField
  fields_of_steps skip [] = []
  fields_of_steps (suc n) (x ∷ xs) = fields_of_steps n xs
  fields_of_steps zero (field_step f below ∷ xs) = f ∷ fields_of_steps zero xs
  fields_of_steps zero (spread_step number ∷ xs) = spread number ++ fields_of_steps zero xs
  fields_of_steps zero (inline_step on count ∷ xs) = fields_of_steps (if applies s on T then 0 else count) xs

-- The steps don't pass over what comes behind them.
abbrev pub IsClosed : List StepData → Type 0
IsClosed steps = (s : SchemaData) (T : ℕ) (spread : ℕ → List CollectedField) (others : List StepData) → fields_of_steps s T spread 0 (steps ++ others) ≡ fields_of_steps s T spread 0 steps ++ fields_of_steps s T spread 0 others

-- ---- leaves

-- At each type a field that is equal to this one is among those to which the steps come.
abbrev pub Stands : List StepData → CollectedField → Type 0
Stands steps f = (s : SchemaData) (T : ℕ) (spread : ℕ → List CollectedField) → Holds (fields_of_steps s T spread 0 steps) f

-- a field without arguments and selections
abbrev pub IsLeaf : FieldOf → Type 0
IsLeaf f = (f.arguments.items ≡ []) × (f.selections.items ≡ [])

-- Under each key a leaf of this key stands, which the steps have, and they are closed.
abbrev pub KnowsLeaves : Option ℕ → List StepData → BTreeMap (Bor (List ℕ)) (Bor FieldOf) → Type 0
KnowsLeaves parent steps leaves = IsClosed steps × ((key : List ℕ) (f : Bor FieldOf) → at_name leaves key ≡ Some f → IsLeaf f.now × (((written_field parent f.now).key ≡ key) × Stands steps (written_field parent f.now)))

-- ---- steps for selections

abbrev pub fields_of_fragment : (List ℕ → List CollectedField) → Option FragmentData → List CollectedField
fields_of_fragment spread None = []
fields_of_fragment spread (Some f) = spread (fragment_name f)

-- the fields of the fragment of a number
abbrev pub by_number : Setting → (List ℕ → List CollectedField) → ℕ → List CollectedField
by_number e spread number = fields_of_fragment spread (slice_get e.fragments number)

-- a fragment that has a rank below the bound
pub record IsRankedFragment (e : Setting) (rank : List ℕ → ℕ) (bound : ℕ) (number : ℕ) : Type 0 where
  pub fragment : FragmentData
  pub there : slice_get e.fragments number ≡ Some fragment
  pub first : fragment_named e (fragment_name fragment) ≡ Some fragment
  pub less : rank (fragment_name fragment) < bound

abbrev pub StepsRanked : Setting → (List ℕ → ℕ) → ℕ → List StepData → Type 0
StepsRanked e rank bound [] = Unit {0}
StepsRanked e rank bound (field_step f below ∷ xs) = StepsRanked e rank bound xs
StepsRanked e rank bound (spread_step number ∷ xs) = IsRankedFragment e rank bound number × StepsRanked e rank bound xs
StepsRanked e rank bound (inline_step on count ∷ xs) = StepsRanked e rank bound xs

-- Names of no fragment give no fields.
abbrev pub LeavesOutUnknown : Setting → (List ℕ → List CollectedField) → Type 0
LeavesOutUnknown e spread = (name : List ℕ) → fragment_named e name ≡ None → spread name ≡ []

-- ---- types between which conditions make no difference

-- so it is of each element
abbrev pub Each : {A : Type 0} → (A → Type 0) → List A → Type 0
Each P [] = Unit {0}
Each P (x ∷ xs) = P x × Each P xs

-- The condition of a step applies to both types, or to neither.
abbrev pub SameStep : SchemaData → ℕ → ℕ → StepData → Type 0
SameStep s T U (field_step f below) = Unit {0}
SameStep s T U (spread_step number) = Unit {0}
SameStep s T U (inline_step on count) = applies s on T ≡ applies s on U

abbrev pub SameSteps : SchemaData → ℕ → ℕ → List StepData → Type 0
SameSteps s T U steps = Each (SameStep s T U) steps

-- Behind others, steps come to the fields of selections that are written on a type, where repeats are left out.
pub record StandsFor (e : Setting) (before : List StepData) (parent : Option ℕ) (selections : List SelectionTree) (steps : List StepData) : Type 0 where
  pub fields : (T : ℕ) (spread : List ℕ → List CollectedField) → LeavesOutUnknown e spread
      → IsThinned (fields_of_steps e.schema T (by_number e spread) 0 before) (fields_in e T spread parent (selections_from selections)) (fields_of_steps e.schema T (by_number e spread) 0 steps)
  pub closed : IsClosed steps
  pub ranks : (rank : List ℕ → ℕ) (bound : ℕ) → AreRanked rank bound (selections_from selections) → StepsRanked e rank bound steps
  pub alike : (T U : ℕ) (spread : List ℕ → List CollectedField) → SameSteps e.schema T U steps → fields_in e T spread parent (selections_from selections) ≡ fields_in e U spread parent (selections_from selections)
