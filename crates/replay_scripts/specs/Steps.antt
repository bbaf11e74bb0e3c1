-- Steps, and how each of them is spelled in a line.
use Rattle.std.specs.Prelude.{◌≡◌, ℕ, ◌<◌, ◌^◌, Bool, true, ◌&&◌, nat_lt, nat_le, List, ◌∷◌, ◌++◌, length, codes}
use Rattle.std.specs.Char.{is_ascii_alphanumeric}
use Rattle.std.specs.Fmt.{decimal}
use Rattle.std.specs.List.{list_all}
use Rattle.client_files.specs.ClientLines.{is_key}
use Rattle.replay_scripts.specs.Limits.{id_limit}
use Rattle.replay_scripts.specs.declared.step.Step.{Step}
use Rattle.replay_scripts.specs.declared.step.Step.TheVariants.{Begin, End}
use Rattle.replay_scripts.specs.declared.step.Returned.{Returned}
use Rattle.replay_scripts.specs.declared.step.Returned.TheVariants.{Reply, Down, Failed}

-- what the upstream made of a request, as data
pub data ReturnedData : Type 0 where
  reply : (body : List ℕ) → ReturnedData
  down : ReturnedData
  failed : ReturnedData

-- a step as data
pub data StepData : Type 0 where
  begins : (id key : List ℕ) (moment : ℕ) (body : List ℕ) → StepData
  ends : (id : List ℕ) (returned : ReturnedData) → StepData

abbrev pub returned_data : Returned → ReturnedData
returned_data (Reply body) = reply body.now
returned_data Down = down
returned_data Failed = failed

abbrev pub step_data : Step → StepData
step_data (Begin id key moment body) = begins id.now key.now moment body.now
step_data (End id returned) = ends id.now (returned_data returned)

-- a request's id has 1 to 16 ASCII letters and digits
abbrev pub is_id : List ℕ → Bool
is_id id = nat_lt 0 (length id) && (nat_le (length id) id_limit && list_all is_ascii_alphanumeric id)

-- a step that a script may have
abbrev pub IsStep : StepData → Type 0
IsStep (begins id key moment body) = (is_id id ≡ true) × (is_key key ≡ true) × (moment < 2 ^ 64)
IsStep (ends id returned) = is_id id ≡ true

-- a text, a space, and another
abbrev pub spaced : List ℕ → List ℕ → List ℕ
spaced first rest = first ++ (32 ∷ rest)

-- the word of what the upstream made
abbrev pub returned_word : ReturnedData → List ℕ
returned_word (reply body) = codes "end"
returned_word down = codes "down"
returned_word failed = codes "fail"

-- the first word of the line
abbrev pub step_word : StepData → List ℕ
step_word (begins id key moment body) = codes "begin"
step_word (ends id returned) = returned_word returned

-- an id, with the body behind it where there is one
abbrev pub ended_text : List ℕ → ReturnedData → List ℕ
ended_text id (reply body) = spaced id body
ended_text id down = id
ended_text id failed = id

-- what stands behind the first word
abbrev pub step_rest : StepData → List ℕ
step_rest (begins id key moment body) = spaced id (spaced key (spaced (decimal moment) body))
step_rest (ends id returned) = ended_text id returned

-- The line spells the step: its word, and what belongs to it, with single spaces between. Bodies go to the end of the line.
pub record IsStepLine (line : List ℕ) (step : StepData) : Type 0 where
  pub text : line ≡ spaced (step_word step) (step_rest step)
  pub formed : IsStep step
