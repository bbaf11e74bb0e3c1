-- What the steps of a script come to, one after the other.
use Rattle.std.specs.Prelude.{◌≡◌, ◌⊎◌, ℕ, ◌+◌, if◌then◌else◌, List, [], ◌∷◌, ◌++◌, length, Option, Some, None, find, bytes_eq, ⊤}
use Rattle.account_shared.specs.Gains.{ClientCall}
use Rattle.replay_scripts.specs.Steps.{StepData, begins, ends, ReturnedData, reply, down, failed}
use Rattle.upstream_link.specs.declared.fault.LinkFault.TheVariants.{Down, Failed}
use Rattle.gateway_core.specs.declared.beginning.Begun.{Begun}
use Rattle.gateway_core.specs.declared.beginning.Begun.TheVariants.{Granted}
use Rattle.gateway_core.specs.declared.finishing.Finished.{Finished}
use Rattle.gateway_core.specs.Rules.{Rules, window_of}
use Rattle.gateway_core.specs.declared.grant.Grant.{Grant}
use Rattle.gateway_core.specs.Begins.{IsBegun, TellsFull, calls_begun}
use Rattle.gateway_core.specs.Finishes.{IsReplied, IsUnanswered, IsStarved, settling}

-- a granted request that isn't finished, with the id by which the script names it
pub record OpenRequest : Type 0 where
  pub id : List ℕ
  pub grant : Grant

abbrev pub open_request : List ℕ → Grant → OpenRequest
open_request id grant = record { id = id; grant = grant }

-- the first open request of an id
abbrev pub open_by : List ℕ → List OpenRequest → Option OpenRequest
open_by id opens = find (λ request. bytes_eq request.id id) opens

-- the open requests but that one
abbrev pub opens_without : List ℕ → List OpenRequest → List OpenRequest
opens_without id [] = []
opens_without id (request ∷ requests) = if bytes_eq request.id id then requests else request ∷ opens_without id requests

-- What came of a step. A request of the client at this place began with this answer, or there was no room to keep a grant, and
-- it didn't begin. An open request was finished with this answer, or none of the id was open.
pub data How : Type 0 where
  begun_as : (client : ℕ) (answer : Begun) → How
  no_room : How
  finished_with : (request : OpenRequest) (answer : Finished) → How
  not_open : How

-- how a granted request finishes, by what the upstream made of it
abbrev pub IsAnswered : Grant → ReturnedData → Finished → Type 0
IsAnswered g (reply body) answer = IsReplied g body answer
IsAnswered g down answer = IsUnanswered g.ticket.bound Down answer
IsAnswered g failed answer = IsUnanswered g.ticket.bound Failed answer

-- What may come of a step after so many calls and with these requests open. Memory may be wanting wherever some is taken; but there is
-- always room for a grant.
abbrev pub ComesTo : Rules → ℕ → List OpenRequest → StepData → How → Type 0
ComesTo rules made opens (begins id key moment body) (begun_as client answer) = IsBegun rules key body client made answer × TellsFull ⊥ answer
ComesTo rules made opens (begins id key moment body) no_room = ⊤
ComesTo rules made opens (ends id returned) (finished_with request answer) =
    (open_by id opens ≡ Some request) × (IsAnswered request.grant returned answer ⊎ IsStarved request.grant.ticket.bound answer)
ComesTo rules made opens (ends id returned) not_open = open_by id opens ≡ None
ComesTo rules made opens _ _ = ⊥

-- the calls that a step made
abbrev pub calls_of_step : Rules → StepData → How → List ClientCall
calls_of_step rules (begins id key moment body) (begun_as client answer) = calls_begun client (window_of rules moment) answer
calls_of_step rules (ends id returned) (finished_with request answer) = settling request.grant.ticket answer.charged ∷ []
calls_of_step rules _ _ = []

abbrev pub opens_begun : List OpenRequest → List ℕ → Begun → List OpenRequest
opens_begun opens id (Granted g) = opens ++ (open_request id g ∷ [])
opens_begun opens id other = opens

-- the requests that are open after a step: what is granted comes last, and what is finished is open no more
abbrev pub opens_past_step : List OpenRequest → StepData → How → List OpenRequest
opens_past_step opens (begins id key moment body) (begun_as client answer) = opens_begun opens id answer
opens_past_step opens (ends id returned) (finished_with request answer) = opens_without id opens
opens_past_step opens _ _ = opens

-- a step, with what came of it
pub record Turn : Type 0 where
  pub step : StepData
  pub how : How

abbrev pub step_of : Turn → StepData
step_of turn = turn.step

abbrev pub calls_of : Rules → Turn → List ClientCall
calls_of rules turn = calls_of_step rules turn.step turn.how

abbrev pub opens_past : List OpenRequest → Turn → List OpenRequest
opens_past opens turn = opens_past_step opens turn.step turn.how

-- Each turn may come where it stands, after so many calls and with these requests open before the first.
abbrev pub Runs : Rules → ℕ → List OpenRequest → List Turn → Type 0
Runs rules made opens [] = ⊤
Runs rules made opens (turn ∷ turns) =
    ComesTo rules made opens turn.step turn.how × Runs rules (made + length (calls_of rules turn)) (opens_past opens turn) turns

-- the requests that are open after turns
abbrev pub opens_after : List OpenRequest → List Turn → List OpenRequest
opens_after opens [] = opens
opens_after opens (turn ∷ turns) = opens_after (opens_past opens turn) turns

-- what is left open at the end is settled at its bound
abbrev pub abandoning : OpenRequest → ClientCall
abandoning request = settling request.grant.ticket request.grant.ticket.bound
