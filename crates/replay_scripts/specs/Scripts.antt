-- What a script says.
use Rattle.std.specs.Prelude.{◌≡◌, ℕ, ◌≤◌, Bool, true, false, List, [], ◌∷◌, length, ⊤}
use Rattle.std.specs.List.{list_any}
use Rattle.std.specs.Str.{bytes_eq}
use Rattle.replay_scripts.specs.Limits.{line_limit}
use Rattle.replay_scripts.specs.Lines.{lines_of}
use Rattle.replay_scripts.specs.Steps.{StepData, begins, ends, IsStepLine}

-- the lines spell these steps, one each
abbrev pub AreStepLines : List (List ℕ) → List StepData → Type 0
AreStepLines [] [] = ⊤
AreStepLines (line ∷ lines) (step ∷ steps) = IsStepLine line step × AreStepLines lines steps
AreStepLines _ _ = ⊥

-- whether a request of this id began
abbrev pub has_begun : List (List ℕ) → List ℕ → Bool
has_begun ids id = list_any (bytes_eq id) ids

-- the ids of requests that began, when a step is made
abbrev pub with_begun : StepData → List (List ℕ) → List (List ℕ)
with_begun (begins id key moment body) ids = id ∷ ids
with_begun (ends id returned) ids = ids

-- and when several are
abbrev pub begun_after : List (List ℕ) → List StepData → List (List ℕ)
begun_after ids [] = ids
begun_after ids (step ∷ steps) = begun_after (with_begun step ids) steps

-- A step that begins a request has a new id, and another one has the id of a request that began.
abbrev pub MayCome : (List ℕ → Bool) → StepData → Type 0
MayCome begun (begins id key moment body) = begun id ≡ false
MayCome begun (ends id returned) = begun id ≡ true

-- each of the steps may come where it stands, when requests of these ids began before
abbrev pub AreInOrder : List (List ℕ) → List StepData → Type 0
AreInOrder ids [] = ⊤
AreInOrder ids (step ∷ steps) = MayCome (has_begun ids) step × AreInOrder (with_begun step ids) steps

-- the lines are those of a script with these steps
pub record AreScriptLines (lines : List (List ℕ)) (steps : List StepData) : Type 0 where
  pub spelled : AreStepLines lines steps
  pub few : length lines ≤ line_limit
  pub ordered : AreInOrder [] steps

-- the text is a script with these steps
abbrev pub IsScript : List ℕ → List StepData → Type 0
IsScript text steps = AreScriptLines (lines_of text) steps
