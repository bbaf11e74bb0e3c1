-- The first fault of a text that is no script.
use Rattle.std.specs.Prelude.{◌≡◌, ◌⊎◌, ℕ, ◌+◌, ◌<◌, Bool, true, false, List, [], ◌∷◌, ◌++◌, length}
use Rattle.replay_scripts.specs.Limits.{line_limit}
use Rattle.replay_scripts.specs.declared.fault.ScriptFault.{ScriptFault}
use Rattle.replay_scripts.specs.declared.fault.ScriptFault.TheVariants.{BadLine, RepeatedId, UnknownId, Memory}
use Rattle.replay_scripts.specs.Lines.{lines_of}
use Rattle.replay_scripts.specs.Steps.{StepData, begins, ends, IsStepLine}
use Rattle.replay_scripts.specs.Scripts.{has_begun, begun_after, AreScriptLines}

-- the step begins a request of an id that began before
abbrev pub BeginsAgain : (List ℕ → Bool) → StepData → Type 0
BeginsAgain begun (begins id key moment body) = begun id ≡ true
BeginsAgain begun (ends id returned) = ⊥

-- the step ends a request that didn't begin before
abbrev pub EndsUnknown : (List ℕ → Bool) → StepData → Type 0
EndsUnknown begun (begins id key moment body) = ⊥
EndsUnknown begun (ends id returned) = begun id ≡ false

-- behind so many lines the line is a step
pub record IsStepBehind (count : ℕ) (line : List ℕ) (step : StepData) : Type 0 where
  pub few : count < line_limit
  pub spelled : IsStepLine line step

-- behind so many lines, no line may come, or this one spells no step
abbrev pub IsNoStepBehind : ℕ → List ℕ → Type 0
IsNoStepBehind count line = (count ≡ line_limit) ⊎ ((step : StepData) → ¬ (IsStepLine line step))

-- what is wrong with the line behind so many lines, when these requests began, with its number
abbrev pub IsAtFault : (List ℕ → Bool) → ℕ → List ℕ → ScriptFault → Type 0
IsAtFault begun count line (BadLine number) = (number ≡ count + 1) × IsNoStepBehind count line
IsAtFault begun count line (RepeatedId number) = (number ≡ count + 1) × ((step : StepData) × IsStepBehind count line step × BeginsAgain begun step)
IsAtFault begun count line (UnknownId number) = (number ≡ count + 1) × ((step : StepData) × IsStepBehind count line step × EndsUnknown begun step)
IsAtFault begun count line Memory = ⊥

-- the lines before one are those of a script, and that line is at fault
pub record HaveFault (lines : List (List ℕ)) (fault : ScriptFault) : Type 0 where
  pub before : List (List ℕ)
  pub line : List ℕ
  pub after : List (List ℕ)
  pub steps : List StepData
  pub cut : lines ≡ before ++ (line ∷ after)
  pub script : AreScriptLines before steps
  pub wrong : IsAtFault (has_begun (begun_after [] steps)) (length before) line fault

-- the text has this fault, in the first of its lines that is at fault
abbrev pub HasFault : List ℕ → ScriptFault → Type 0
HasFault text fault = HaveFault (lines_of text) fault
