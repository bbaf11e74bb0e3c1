-- Groups of fields of one response key.
use Rattle.std.specs.Prelude.{List, [], ◌∷◌, ℕ, map}
use Rattle.plan_model.specs.SelectedFields.{Setting}
use Rattle.plan_model.specs.Collecting.{CollectedField, WrittenSelections}
use Rattle.plan_model.specs.Merging.{fields_of_key, selections_below}
use Rattle.plan_model.specs.Repeats.{LeavesOutRepeats}
use Rattle.plan_model.specs.Likeness.{AreLike}

-- The fields of a response key, of which some may be left out that look like one before; and the selections below all of them.
pub record GroupData : Type 0 where
  pub fields : List CollectedField
  pub below : List WrittenSelections

-- It is the group of these fields.
pub record IsGroupOf (e : Setting) (fields : List CollectedField) (g : GroupData) : Type 0 where
  pub like : AreLike e.schema fields g.fields
  pub below : LeavesOutRepeats (map (selections_below e) fields) g.below

-- The groups are those of the fields of these keys, one after the other.
abbrev pub AreGroupsOf : Setting → List CollectedField → List (List ℕ) → List GroupData → Type 0
AreGroupsOf e fields [] [] = Unit {0}
AreGroupsOf e fields [] (g ∷ groups) = ⊥
AreGroupsOf e fields (key ∷ keys) [] = ⊥
AreGroupsOf e fields (key ∷ keys) (g ∷ groups) = IsGroupOf e (fields_of_key key fields) g × AreGroupsOf e fields keys groups
