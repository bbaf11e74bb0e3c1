-- Selection sets by numbers, or by other marks. A set comes, for each type, to the fields that are listed for its mark and the type,
-- where a later field is left out that is like an earlier one.
use Rattle.std.specs.Prelude.{◌≡◌, ℕ, zero, suc, List, []}
use Rattle.plan_model.specs.SelectedFields.{Setting}
use Rattle.plan_model.specs.Collecting.{CollectedField, WrittenSelections, fields_written, fields_spread, nesting}
use Rattle.plan_model.specs.Merging.{Position, selections_below}
use Rattle.plan_model.specs.Likeness.{LooksSame, Thins}

-- `items` are the fields that are listed for a mark and a type.
module _ {K : Type 0} (e : Setting) (items : K → ℕ → List (CollectedField × K)) where
  -- To so many levels the selections come to what is listed for the mark.
  abbrev pub HasMark : ℕ → WrittenSelections → K → Type 0
  HasMark zero w k = Unit {0}
  HasMark (suc n) w k = (T : ℕ) → Thins (λ (f : CollectedField) (i : CollectedField × K). LooksSame e f i.0 × HasMark n (selections_below e f) i.1) [] (fields_written e T (fields_spread e T (nesting e)) w) (items k T)

  -- the field is like the one that is listed, and its selections come to what is listed for the mark of these
  abbrev pub IsItem : ℕ → CollectedField → CollectedField × K → Type 0
  IsItem n f i = LooksSame e f i.0 × HasMark n (selections_below e f) i.1

  -- The selections of a position have these marks, of which repeats may be left out.
  abbrev pub HaveMarks : ℕ → List WrittenSelections → List K → Type 0
  HaveMarks n selections marks = Thins (HasMark n) [] selections marks

-- ---- marks that are numbers

-- the fields that are listed for a number and a type, each with the number of its selections
abbrev pub ItemsByNumber : Type 0
ItemsByNumber = ℕ → ℕ → List (CollectedField × ℕ)

-- The selections of two positions have the same numbers, and the same size is handed down to them.
pub record HaveSameMarks (e : Setting) (items : ItemsByNumber) (n : ℕ) (p q : Position) : Type 0 where
  pub marks : List ℕ
  pub first : HaveMarks e items n p.selections marks
  pub second : HaveMarks e items n q.selections marks
  pub handed : p.handed ≡ q.handed
