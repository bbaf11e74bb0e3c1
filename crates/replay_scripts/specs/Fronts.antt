-- How far a script is read.
use Rattle.std.specs.Prelude.{◌≡◌, ℕ, Bool, is_some, List, [], ◌++◌, Option}
use Rattle.replay_scripts.specs.Lines.{lines_of}
use Rattle.replay_scripts.specs.Steps.{StepData}
use Rattle.replay_scripts.specs.Scripts.{has_begun, begun_after, MayCome, AreScriptLines}
use Rattle.replay_scripts.specs.Faults.{IsStepBehind}

-- whether something stands at an id
abbrev pub stands : (List ℕ → Option ℕ) → List ℕ → Bool
stands places id = is_some (places id)

-- something stands just at the ids of requests that began
abbrev pub Know : (List ℕ → Option ℕ) → List (List ℕ) → Type 0
Know places ids = (id : List ℕ) → stands places id ≡ has_begun ids id

-- behind so many lines the line is a step that may come
pub record Follows (begun : List ℕ → Bool) (count : ℕ) (line : List ℕ) (step : StepData) : Type 0 where
  pub behind : IsStepBehind count line step
  pub may : MayCome begun step

-- the lines up to the rest are those of a script with these steps
pub record IsFront (text rest : List ℕ) (steps : List StepData) (places : List ℕ → Option ℕ) : Type 0 where
  pub before : List (List ℕ)
  pub cut : lines_of text ≡ before ++ lines_of rest
  pub script : AreScriptLines before steps
  pub know : Know places (begun_after [] steps)
