-- What a body was found to ask for, and whether the costs of it are counted.
use Rattle.std.specs.Prelude.{◌≢◌, ℕ, List, Option, None, Some, ⊤}
use Rattle.local_introspection.specs.PassedOn.{RequestData, IsRefusedFor, IsWithin}
use Rattle.local_introspection.specs.declared.fault.LocalFault.TheVariants.{Memory as NoLocalMemory}
use Rattle.local_introspection.specs.declared.answering.Counted.{Counted}
use Rattle.local_introspection.specs.Counted.{answer_counted}
use Rattle.local_introspection.specs.LocalRequests.{LocalRequest}
use Rattle.local_introspection.specs.LocalAnswers.{IsRefusedFor as IsNotAnsweredFor}
use Rattle.local_introspection.specs.AskedHere.{IsAnsweredHere, IsRefusedHere}
use Rattle.gateway_core.specs.declared.beginning.Denial.{Denial}
use Rattle.gateway_core.specs.declared.beginning.Denial.TheVariants.{Refused, NotLocal, Memory}
use Rattle.gateway_core.specs.declared.examining.Examined.{Examined}
use Rattle.gateway_core.specs.declared.examining.Examined.TheVariants as found
use Rattle.gateway_core.specs.Rules.{Rules}
use Rattle.gateway_core.specs.Requests.{GoesUpstream, IsPromised, IsPromisedFor, Knows, IsAnsweredFor}
use Rattle.gateway_core.specs.PlanBounds.{Covers}

-- what a body was found to ask for
abbrev pub IsFound : Rules → List ℕ → Examined → Type 0
IsFound rules body (found.Upstream promise) = IsPromisedFor rules body promise
IsFound rules body (found.Local counted) = IsAnsweredFor rules body (answer_counted counted)

-- what a request was found to be for
abbrev pub IsFoundFor : Rules → RequestData → Examined → Type 0
IsFoundFor rules r (found.Upstream promise) = GoesUpstream rules r × IsPromised r promise
IsFoundFor rules r (found.Local counted) = IsAnsweredHere (Knows rules) (answer_counted counted) r

-- why a request is neither forwarded nor answered
abbrev pub IsUnfitFor : Rules → RequestData → Denial → Type 0
IsUnfitFor rules r (Refused refusal) = GoesUpstream rules r × IsRefusedFor r refusal
IsUnfitFor rules r (NotLocal fault) = IsRefusedHere (Knows rules) fault r
IsUnfitFor rules r Memory = ⊤
IsUnfitFor rules r other = ⊥

-- The bound covers the replies to what is promised; the cost of an answer is within the cap.
abbrev pub IsPayable : Examined → Type 0
IsPayable (found.Upstream promise) = Covers promise.plan promise.bound
IsPayable (found.Local counted) = IsWithin counted.cost

-- what the gateway answers itself, where it is the one to answer
abbrev pub IsOwn : Rules → RequestData → Option Counted → Type 0
IsOwn rules r None = GoesUpstream rules r
IsOwn rules r (Some counted) = IsAnsweredHere (Knows rules) (answer_counted counted) r

abbrev pub IsOwnWithin : Option Counted → Type 0
IsOwnWithin None = ⊤
IsOwnWithin (Some counted) = IsWithin counted.cost

-- the gateway doesn't answer it, though it is the one to answer
abbrev pub IsNotOwn : Rules → RequestData → Denial → Type 0
IsNotOwn rules r (NotLocal fault) = IsRefusedHere (Knows rules) fault r
IsNotOwn rules r Memory = ⊤
IsNotOwn rules r other = ⊥

-- why what is asked of the gateway isn't answered
abbrev pub TellsLocal : LocalRequest → Denial → Type 0
TellsLocal r (NotLocal fault) = (fault ≢ NoLocalMemory) × IsNotAnsweredFor r fault
TellsLocal r Memory = ⊤
TellsLocal r other = ⊥
