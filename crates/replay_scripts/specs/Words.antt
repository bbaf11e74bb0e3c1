-- The words of a line, for the code that reads them.
use Rattle.std.specs.Prelude.{◌≡◌, ℕ, ◌<◌, ◌^◌, Bool, ◌==◌, nat_lt, List, length, slice_index, Option, None, Some, if◌then◌else◌}
use Rattle.std.specs.Fmt.{decimal}
use Rattle.std.specs.List.{before_first, after_first, position_or_len}
use Rattle.replay_scripts.specs.Steps.{ReturnedData, reply, StepData, step_word, step_rest, IsStep}

-- a space
abbrev pub is_space : ℕ → Bool
is_space byte = byte == 32

-- what stands before the first space, and behind it
abbrev pub first_word : List ℕ → Option (List ℕ × List ℕ)
first_word text = if nat_lt (position_or_len is_space text) (length text) then Some (before_first is_space text, after_first is_space text) else None

-- the text of a moment: decimal digits without leading zeros
abbrev pub IsMoment : List ℕ → ℕ → Type 0
IsMoment text moment = (text ≡ decimal moment) × (moment < 2 ^ 64)

-- a text begins with a digit other than 0
abbrev pub BeginsAboveNought : List ℕ → Type 0
BeginsAboveNought text = (48 < slice_index text 0) × (slice_index text 0 < 58)

-- the step has this word, and what belongs to it is the text
pub record IsSpelled (word text : List ℕ) (step : StepData) : Type 0 where
  pub word_is : word ≡ step_word step
  pub text_is : text ≡ step_rest step
  pub formed : IsStep step

-- no reply
abbrev pub IsBodiless : ReturnedData → Type 0
IsBodiless (reply body) = ⊥
IsBodiless _ = Unit {0}
