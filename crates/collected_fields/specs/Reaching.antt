-- Types of objects for which walks over steps collect nothing.
use Rattle.std.specs.Prelude.{◌≡◌, ◌⊎◌, ℕ, true, List, [], ◌∷◌, ◌++◌, map, flat_map, drop, None, Some}
use Rattle.schema_model.specs.SchemaData.{applies}
use Rattle.schema_model.specs.SchemaViews.{schema_data}
use Rattle.collected_fields.specs.declared.joins.Joins.{Joins}
use Rattle.collected_fields.specs.declared.reach.Reach.{Reach}
use Rattle.collected_fields.specs.declared.reaching.AllReaches.{AllReaches}
use Rattle.collected_fields.specs.declared.reaching.Reaches.{Reaches}
use Rattle.collected_fields.specs.declared.tables.Tables.{Tables}
use Rattle.collected_fields.specs.Lists.{sets_in_joins, IsNumberIn}
use Rattle.collected_fields.specs.Kinds.{KnowsKinds}
use Rattle.collected_fields.specs.Prepared.{list_data, entry_data}
use Rattle.collected_fields.specs.Reached.{Misses, IsObjectType, found_of}
use Rattle.collected_fields.specs.Steps.{StepData}
use Rattle.collected_fields.specs.Walks.{WalkData, steps_at, walk_steps, walk_fragment}

module _ (t : Tables) (T : ℕ) where
  abbrev pub steps_listed : ℕ → List StepData
  steps_listed = steps_at (map list_data t.lists.items)

  -- the walk of a fragment to a depth, where nothing that is kept is taken
  abbrev pub enter_plain : ℕ → ℕ → WalkData → WalkData
  enter_plain depth = walk_fragment (schema_data t.planning.schema.now) T (steps_at (map list_data t.lists.items)) (λ number. None) (map entry_data t.entries.items) depth

  -- However deep it goes, a walk over the steps collects nothing.
  unfoldable pub CollectNothing : List StepData → Type 0
  CollectNothing steps = (depth : ℕ) (w : WalkData) → (walk_steps (schema_data t.planning.schema.now) T (enter_plain depth) 0 steps w).fields ≡ w.fields

  -- the same of the fragment of a number
  unfoldable pub FragmentCollectsNothing : ℕ → Type 0
  FragmentCollectsNothing number = (depth : ℕ) (w : WalkData) → (enter_plain depth number w).fields ≡ w.fields

  -- and of selection sets
  abbrev pub SetsCollectNothing : List ℕ → Type 0
  SetsCollectNothing [] = Unit {0}
  SetsCollectNothing (set ∷ sets) = CollectNothing (steps_listed set) × SetsCollectNothing sets

  -- Where the others collect nothing behind the second steps, they do behind the first.
  abbrev pub Passes : List StepData → List StepData → Type 0
  Passes xs ys = (others : List StepData) → CollectNothing (ys ++ others) → CollectNothing (xs ++ others)

-- What the new one misses of types of objects, the old one missed, and there is nothing for objects of such a type.
module _ (t : Tables) (old new : Reach) where
  abbrev pub Reaching : (ℕ → Type 0) → Type 0
  Reaching Nothing = (T : ℕ) → IsObjectType (schema_data t.planning.schema.now) T → Misses new T → Misses old T × Nothing T

  -- in steps
  abbrev pub ReachesSteps : List StepData → Type 0
  ReachesSteps xs = Reaching (λ T. Passes t T xs [])

  -- in a step, and in as many behind it as are passed over
  abbrev pub ReachesStep : StepData → List StepData → ℕ → Type 0
  ReachesStep x rest passed = Reaching (λ T. Passes t T (x ∷ rest) (drop passed rest))

  abbrev pub ReachesFragment : ℕ → Type 0
  ReachesFragment number = Reaching (λ T. FragmentCollectsNothing t T number)

  -- in a selection set, where a condition applies
  abbrev pub ReachesWhere : ℕ → ℕ → Type 0
  ReachesWhere on set = Reaching (λ T. applies (schema_data t.planning.schema.now) on T ≡ true → CollectNothing t T (steps_listed t T set))

  abbrev pub ReachesSets : List ℕ → Type 0
  ReachesSets sets = Reaching (λ T. SetsCollectNothing t T sets)

-- ---- what was found of selection sets

abbrev pub AreReached : Tables → Reaches → Type 0
AreReached t found = (set : ℕ) (reach : Reach) → found_of found set ≡ Some reach → (T : ℕ) → IsObjectType (schema_data t.planning.schema.now) T → Misses reach T → CollectNothing t T (steps_listed t T set)

-- the same for objects of the type T alone
abbrev pub AreReachedFor : Tables → ℕ → Reaches → Type 0
AreReachedFor t T found = (set : ℕ) (reach : Reach) → found_of found set ≡ Some reach → Misses reach T → CollectNothing t T (steps_listed t T set)

-- the same of lists of selection sets, by their numbers
abbrev pub AreListsReached : Tables → Joins → Reaches → Type 0
AreListsReached t j found = (number : ℕ) (reach : Reach) → found_of found number ≡ Some reach → IsNumberIn j number × ((T : ℕ) → IsObjectType (schema_data t.planning.schema.now) T → Misses reach T → SetsCollectNothing t T (sets_in_joins j number))

-- the same for objects of the type T alone
abbrev pub AreListsReachedFor : Tables → Joins → ℕ → Reaches → Type 0
AreListsReachedFor t j T found = (number : ℕ) (reach : Reach) → found_of found number ≡ Some reach → Misses reach T → SetsCollectNothing t T (sets_in_joins j number)

pub record AreAllReached (t : Tables) (j : Joins) (all : AllReaches) : Type 0 where
  pub sets : AreReached t all.sets
  pub lists : AreListsReached t j all.lists
  pub kinds : KnowsKinds t all.kinds

-- What was found was found before, or is this of this number.
abbrev pub FindsOne : Reaches → Reaches → ℕ → Reach → Type 0
FindsOne old new set reach = (place : ℕ) (r : Reach) → found_of new place ≡ Some r → (found_of old place ≡ Some r) ⊎ ((place ≡ set) × (r ≡ reach))

-- the selection sets of numbers
abbrev pub sets_of_numbers : Joins → List ℕ → List ℕ
sets_of_numbers j numbers = flat_map (sets_in_joins j) numbers

-- It has the types of their selection sets.
abbrev pub ReachesNumbers : Tables → Joins → List ℕ → Reach → Type 0
ReachesNumbers t j numbers reach = (T : ℕ) → IsObjectType (schema_data t.planning.schema.now) T → Misses reach T → SetsCollectNothing t T (sets_of_numbers j numbers)
