-- How the values of defaults are found, round by round.
use Rattle.std.specs.Prelude.{ℕ, ◌≡◌, ◌≤◌, ◌⊎◌, Bool, true, false, List, length, drop, Option, None, Some, Result, Ok, Err, slice_get}
use Rattle.std.specs.List.{Contains}
use Rattle.gql_base.specs.parts.Values.{ValueTree}
use Rattle.input_values.specs.values.Coerced.{CoercedTree, coerced_tree}
use Rattle.input_values.specs.inputs.Shapes.{ShapeTree}
use Rattle.input_values.specs.coercion.Answers.{Answer, refused}
use Rattle.input_values.specs.coercion.Forms.{InputForm}
use Rattle.input_values.specs.declared.values.coerced.Coerced.{Coerced}
use Rattle.input_values.specs.declared.defaults.filling.DefaultFault.{DefaultFault}
use Rattle.input_values.specs.declared.defaults.filling.DefaultFault.TheVariants.{Bad, Memory}
use Rattle.input_values.specs.defaults.Drafts.{draft_fields, FieldDraft, Draft, default_value}
use Rattle.input_values.specs.defaults.Filling.{Table, table_forms}

-- want of memory is free
abbrev pub TellsDefault : DefaultFault → Answer CoercedTree → Type 0
TellsDefault Bad answer = answer ≡ refused
TellsDefault Memory answer = Unit {0}

abbrev pub AnswersDefault : Result Coerced DefaultFault → Answer CoercedTree → Type 0
AnswersDefault (Ok value) answer = answer ≡ Ok (coerced_tree value)
AnswersDefault (Err fault) answer = TellsDefault fault answer

abbrev pub literal_value : (ℕ → InputForm) → ShapeTree → Option ValueTree → Answer CoercedTree
literal_value form shape None = refused
literal_value form shape (Some literal) = default_value form shape literal

abbrev pub field_value : (ℕ → InputForm) → Option FieldDraft → Answer CoercedTree
field_value form None = refused
field_value form (Some f) = literal_value form f.shape f.default

-- what the default at a place comes to, beside the values that were found
abbrev pub place_value : (ℕ → Draft) → Table → ℕ → ℕ → Answer CoercedTree
place_value draft table of at = field_value (table_forms draft table) (slice_get (draft_fields (draft of)) at)

abbrev pub IsFound : Table → ℕ → ℕ → Type 0
IsFound table of at = (t : CoercedTree) × (table of at ≡ Some t)

-- Each value that was found is what its literal comes to, beside those that were found.
abbrev pub AreFound : (ℕ → Draft) → Table → Type 0
AreFound draft table = (of at : ℕ) (t : CoercedTree) → table of at ≡ Some t → place_value draft table of at ≡ Ok t

abbrev pub Keeps : Table → Table → Type 0
Keeps less more = (of at : ℕ) (t : CoercedTree) → less of at ≡ Some t → more of at ≡ Some t

-- where no value was found, none is to be found
abbrev pub HasNone : (ℕ → Draft) → Table → ℕ → ℕ → Type 0
HasNone draft table of at = table of at ≡ None → (t : CoercedTree) → place_value draft table of at ≡ Ok t → ⊥

abbrev pub PlaceIs : Bool → (ℕ → Draft) → Table → Table → ℕ → ℕ → Type 0
PlaceIs true draft less more of at = IsFound more of at
PlaceIs false draft less more of at = (less ≡ more) × HasNone draft more of at

-- A place was looked at: its value was found, or there is none beside those that were found.
pub record Fills (draft : ℕ → Draft) (less more : Table) (of at : ℕ) (done : Bool) : Type 0 where
  pub found : AreFound draft less → AreFound draft more
  pub keeps : Keeps less more
  pub place : PlaceIs done draft less more of at

-- each place of a field has its value, or is among these
abbrev pub Covers : (ℕ → Draft) → Table → List (ℕ × ℕ) → Type 0
Covers draft table missing = (of at : ℕ) → (slice_get (draft_fields (draft of)) at ≡ None) ⊎ (IsFound table of at ⊎ Contains missing (of, at))

-- A round over the places that miss their values, of which the first `n` were looked at; `still` miss theirs.
pub record RoundLeft (draft : ℕ → Draft) (less more : Table) (missing still : List (ℕ × ℕ)) (n : ℕ) : Type 0 where
  pub found : AreFound draft less → AreFound draft more
  pub keeps : Keeps less more
  pub covers : (of at : ℕ) → Contains missing (of, at) → IsFound more of at ⊎ (Contains still (of, at) ⊎ Contains (drop n missing) (of, at))
  pub fewer : length still ≤ n
  pub none : length still ≡ n → (of at : ℕ) → Contains still (of, at) → HasNone draft more of at
