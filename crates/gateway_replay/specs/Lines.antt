-- The lines of a replay, and what they add up to.
use Rattle.std.specs.Prelude.{◌≡◌, ℕ, Bool, true, false, List, [], ◌∷◌, ◌++◌, map, count_by, flat_map, codes, string_bytes}
use Rattle.std.specs.Fmt.{decimal}
use Rattle.cost_num.specs.declared.Cost.{Cost}
use Rattle.cost_num.specs.CostText.{cost_text}
use Rattle.account_core.specs.Costs.{nothing, together, smaller}
use Rattle.replay_scripts.specs.Steps.{StepData, begins, ends, spaced}
use Rattle.gateway_core.specs.declared.beginning.Begun.TheVariants as begun
use Rattle.gateway_core.specs.declared.beginning.Denial.TheVariants as denial
use Rattle.gateway_core.specs.declared.finishing.Finished.{Finished as Answer}
use Rattle.gateway_core.specs.Rules.{greatest}
use Rattle.gateway_core.specs.Messages.{denial_status, denial_text}
use Rattle.gateway_replay.specs.declared.told.Told.{Told}
use Rattle.gateway_replay.specs.declared.told.Told.TheVariants.{Granted, Answered, Denied, Finished, NotOpen, Abandoned}
use Rattle.gateway_replay.specs.declared.replayed.Replayed.{Replayed}
use Rattle.gateway_replay.specs.Turns.{OpenRequest, How, begun_as, no_room, finished_with, not_open, Turn, opens_after}

-- what is told of a request, by its id
pub record Line : Type 0 where
  pub id : List ℕ
  pub told : Told

abbrev pub line_for : List ℕ → Told → Line
line_for id told = record { id = id; told = told }

-- ---- what is told

abbrev pub told_of : How → Told
told_of (begun_as client (begun.Granted g)) = Granted g.ticket.bound
told_of (begun_as client (begun.Answered a)) = Answered a.finished
told_of (begun_as client (begun.Denied why)) = Denied why
told_of no_room = Denied denial.Memory
told_of (finished_with request answer) = Finished answer
told_of not_open = NotOpen

-- the id that a step names
abbrev pub id_of : StepData → List ℕ
id_of (begins id key moment body) = id
id_of (ends id returned) = id

abbrev pub line_of_turn : Turn → Line
line_of_turn turn = line_for (id_of turn.step) (told_of turn.how)

abbrev pub line_of_abandoned : OpenRequest → Line
line_of_abandoned request = line_for request.id (Abandoned request.grant.ticket.bound)

-- A line for each turn, and then one for each request that is left open, in the order in which they began.
abbrev pub all_lines : List Turn → List Line
all_lines turns = map line_of_turn turns ++ map line_of_abandoned (opens_after [] turns)

-- ---- how it is written

-- the status of an answer, what is charged for it, and its body
abbrev pub finished_text : Answer → List ℕ
finished_text answer = spaced (decimal answer.status) (codes "charged " ++ spaced (cost_text answer.charged) answer.body)

abbrev pub told_text : Told → List ℕ
told_text (Granted bound) = codes "granted " ++ cost_text bound
told_text (Denied why) = spaced (decimal (denial_status why)) (denial_text why)
told_text (Answered answer) = finished_text answer
told_text (Finished answer) = finished_text answer
told_text NotOpen = codes "not open"
told_text (Abandoned bound) = codes "abandoned charged " ++ cost_text bound

-- the id, a space, and what is told; a line feed ends it
abbrev pub line_text : Line → List ℕ
line_text line = spaced line.id (told_text line.told) ++ (10 ∷ [])

-- ---- what lines add up to

abbrev pub is_granted : Told → Bool
is_granted (Granted bound) = true
is_granted (Answered answer) = true
is_granted other = false

abbrev pub is_short : Told → Bool
is_short (Denied (denial.Short left bound)) = true
is_short other = false

-- a request that is denied, but not for want of allowance: with status 400, 401 or 500
abbrev pub is_refused : Told → Bool
is_refused (Denied (denial.Short left bound)) = false
is_refused (Denied why) = true
is_refused other = false

-- what is charged by a line
abbrev pub charge_of : Told → Cost
charge_of (Answered answer) = answer.charged
charge_of (Finished answer) = answer.charged
charge_of (Abandoned bound) = bound
charge_of other = nothing

-- the costs added up
abbrev pub total : List Cost → Cost
total [] = nothing
total (cost ∷ costs) = together cost (total costs)

-- how many lines tell such a thing
abbrev pub lines_with : (Told → Bool) → List Line → ℕ
lines_with such lines = count_by (λ line. such line.told) lines

-- what the lines charge, added up, in each component the cap where that is more
abbrev pub all_charged : List Line → Cost
all_charged lines = smaller greatest (total (map (λ line. charge_of line.told) lines))

-- the report holds these lines, and what they add up to
pub record Reports (lines : List Line) (report : Replayed) : Type 0 where
  pub written : string_bytes report.lines ≡ flat_map line_text lines
  pub granted : report.granted ≡ lines_with is_granted lines
  pub short : report.short ≡ lines_with is_short lines
  pub refused : report.refused ≡ lines_with is_refused lines
  pub charged : report.charged ≡ all_charged lines
