-- Fields in whose place others may stand: they come to the same nodes, with the same selections below.
use Rattle.std.specs.Prelude.{◌≡◌, ◌-◌, ℕ, ltb, List, [], ◌∷◌, map, flat_map, get_or, if◌then◌else◌}
use Rattle.plan_model.specs.SelectedFields.{Setting}
use Rattle.plan_model.specs.Collecting.{CollectedField, WrittenSelections}
use Rattle.plan_model.specs.Merging.{keys_of, fields_of_key, selections_below}
use Rattle.plan_model.specs.Repeats.{LeavesOutRepeats}
use Rattle.plan_model.specs.Likeness.{AreLike}
use Rattle.collected_fields.specs.Walks.{NumberedField, field_alone, numbered_of_key}

-- the selection sets of a number: of those below the count itself, of others those of a list
abbrev pub sets_of : ℕ → List (List ℕ) → ℕ → List ℕ
sets_of count lists number = if ltb number count then number ∷ [] else get_or lists (number - count) []

abbrev pub number_alone : NumberedField → ℕ
number_alone f = f.1

-- fields of which the first has a number, and the others one that stands for nothing
abbrev pub with_number : ℕ → ℕ → List CollectedField → List NumberedField
with_number number nothing [] = []
with_number number nothing (f ∷ fields) = (f, number) ∷ map (λ g. (g, nothing)) fields

-- `meaning` are the selections that a number stands for.
module _ (e : Setting) (meaning : ℕ → List WrittenSelections) where
  -- The numbered fields have the keys of the others. For each key they are like its fields, and their numbers stand for the
  -- selections below these.
  pub record Serve (fields : List CollectedField) (numbered : List NumberedField) : Type 0 where
    pub keys : keys_of fields ≡ keys_of (map field_alone numbered)
    pub like : (key : List ℕ) → AreLike e.schema (fields_of_key key fields) (map field_alone (numbered_of_key key numbered))
    pub below : (key : List ℕ) → LeavesOutRepeats (map (selections_below e) (fields_of_key key fields)) (flat_map meaning (map number_alone (numbered_of_key key numbered)))

  -- The same, where repeats among the fields are left out.
  pub record ComeTo (fields : List CollectedField) (numbered : List NumberedField) : Type 0 where
    pub left : List CollectedField
    pub repeats : LeavesOutRepeats fields left
    pub served : Serve left numbered
