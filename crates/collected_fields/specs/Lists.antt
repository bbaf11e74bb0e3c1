-- Lists of selection sets by their numbers, and what is made of groups by them.
use Rattle.std.specs.Prelude.{◌≡◌, ◌<◌, ◌+◌, ℕ, List, [], ◌∷◌, ◌++◌, map, flat_map, length, All, Option, None, Some}
use Rattle.schema_model.specs.SchemaData.{SchemaData}
use Rattle.plan_model.specs.Repeats.{LeavesOutRepeats}
use Rattle.plan_model.specs.Likeness.{AreLike}
use Rattle.collected_fields.specs.declared.collected.Group.{Group}
use Rattle.collected_fields.specs.declared.joins.Joins.{Joins}
use Rattle.collected_fields.specs.Views.{collected_field}
use Rattle.collected_fields.specs.Walks.{NumberedField, field_alone}
use Rattle.collected_fields.specs.Serving.{sets_of, number_alone}

abbrev pub lists_of_joins : Joins → List (List ℕ)
lists_of_joins j = map (λ l. l.items) j.lists.items

abbrev pub sets_in_joins : Joins → ℕ → List ℕ
sets_in_joins j number = sets_of j.count (lists_of_joins j) number

-- There is such a selection set, or such a list.
abbrev pub IsNumberIn : Joins → ℕ → Type 0
IsNumberIn j number = number < j.count + length j.lists.items

abbrev pub AreNumbersIn : Joins → List ℕ → Type 0
AreNumbersIn j numbers = All (IsNumberIn j) numbers

-- Numbers that were there stand for the same.
abbrev pub HasMore : Joins → Joins → Type 0
HasMore old new = (number : ℕ) → IsNumberIn old number → IsNumberIn new number × (sets_in_joins new number ≡ sets_in_joins old number)

-- One number stands for the selection sets of others, where repeats are left out.
abbrev pub StandsForAll : Joins → Joins → List ℕ → ℕ → Type 0
StandsForAll old new numbers number = AreNumbersIn old numbers → IsNumberIn new number × LeavesOutRepeats (flat_map (sets_in_joins old) numbers) (sets_in_joins new number)

-- This number stands for a list.
abbrev pub MayStandForList : Joins → List ℕ → Option ℕ → Type 0
MayStandForList j list None = Unit {0}
MayStandForList j list (Some number) = IsNumberIn j number × (sets_in_joins j number ≡ list)

abbrev pub MayStandForAll : Joins → Joins → List ℕ → Option ℕ → Type 0
MayStandForAll old new numbers None = Unit {0}
MayStandForAll old new numbers (Some number) = StandsForAll old new numbers number

-- These numbers together stand for a list.
abbrev pub AreFor : Joins → List ℕ → List ℕ → Type 0
AreFor j list numbers = AreNumbersIn j numbers × (flat_map (sets_in_joins j) numbers ≡ list)

-- They stand for what stands before this piece of a list.
abbrev pub AreForBefore : Joins → List ℕ → List ℕ → List ℕ → Type 0
AreForBefore j list numbers piece = (done : List ℕ) × (AreFor j done numbers × (done ++ piece ≡ list))

-- One number is put behind others: they stand for a piece of a list more.
abbrev pub PutsPiece : Joins → Joins → List ℕ → List ℕ → List ℕ → Type 0
PutsPiece old new piece numbers others = (list : List ℕ) → AreFor old list numbers → AreFor new (list ++ piece) others

-- some numbers in place of others
abbrev pub StandFor : Joins → Joins → List ℕ → List ℕ → Type 0
StandFor old new numbers others = AreNumbersIn old numbers → AreNumbersIn new others × LeavesOutRepeats (flat_map (sets_in_joins old) numbers) (flat_map (sets_in_joins new) others)

-- ---- groups

-- The group is made of these numbered fields.
pub record Finishes (s : SchemaData) (old new : Joins) (of : List NumberedField) (g : Group) : Type 0 where
  pub like : AreLike s (map field_alone of) (map collected_field g.fields.items)
  pub below : StandFor old new (map number_alone of) g.below.items

abbrev pub AllFinish : SchemaData → Joins → Joins → List (List NumberedField) → List Group → Type 0
AllFinish s old new [] [] = Unit {0}
AllFinish s old new [] (g ∷ groups) = ⊥
AllFinish s old new (of ∷ others) [] = ⊥
AllFinish s old new (of ∷ others) (g ∷ groups) = Finishes s old new of g × AllFinish s old new others groups

-- ---- fields that are kept

-- The number behind the selection sets stands for none.
abbrev pub HasNothing : Joins → Type 0
HasNothing j = IsNumberIn j j.count × (sets_in_joins j j.count ≡ [])

-- Some numbered fields stand in the place of others of one key.
pub record Shortens (s : SchemaData) (old new : Joins) (of made : List NumberedField) : Type 0 where
  pub like : AreLike s (map field_alone of) (map field_alone made)
  pub below : HasNothing old → StandFor old new (map number_alone of) (map number_alone made)

abbrev pub MayShorten : SchemaData → Joins → Joins → List NumberedField → Option (List NumberedField) → Type 0
MayShorten s old new of None = Unit {0}
MayShorten s old new of (Some made) = Shortens s old new of made

-- the same of each key, one behind the other
abbrev pub AllShorten : SchemaData → Joins → Joins → List (List NumberedField) → List NumberedField → Type 0
AllShorten s old new [] made = made ≡ []
AllShorten s old new (of ∷ others) made = (first : List NumberedField) × ((rest : List NumberedField) × (((made ≡ first ++ rest) × Shortens s old new of first) × AllShorten s old new others rest))

abbrev pub MayShortenAll : SchemaData → Joins → Joins → List (List NumberedField) → Option (List NumberedField) → Type 0
MayShortenAll s old new of None = Unit {0}
MayShortenAll s old new of (Some made) = AllShorten s old new of made
