-- How a granted request finishes: what it is answered, and what it is charged.
use Rattle.std.specs.Prelude.{◌≡◌, ◌⊎◌, ℕ, List, [], Result, Ok, Err}
use Rattle.cost_num.specs.declared.Cost.{Cost}
use Rattle.account_core.specs.Costs.{nothing}
use Rattle.account_core.specs.declared.Ticket.{Ticket}
use Rattle.account_core.specs.Machine.{done}
use Rattle.account_core.specs.Numbers.{settlement_of}
use Rattle.account_shared.specs.Gains.{ClientCall, client_call}
use Rattle.response_meter.specs.declared.metered.Metered.{Metered}
use Rattle.response_meter.specs.declared.fault.MeterFault.{MeterFault}
use Rattle.response_meter.specs.Metered.{TypesDiffer, AreTextsAlike}
use Rattle.upstream_link.specs.declared.fault.LinkFault.{LinkFault}
use Rattle.upstream_link.specs.declared.fault.LinkFault.TheVariants.{Down, Memory}
use Rattle.gateway_core.specs.declared.finishing.Outcome.{Outcome}
use Rattle.gateway_core.specs.declared.finishing.Outcome.TheVariants.{Reply, Fault, NoMemory}
use Rattle.gateway_core.specs.declared.finishing.Finished.{Finished}
use Rattle.gateway_core.specs.declared.grant.Grant.{Grant}
use Rattle.gateway_core.specs.Rules.{Rules}
use Rattle.gateway_core.specs.Requests.{IsPromisedFor}
use Rattle.gateway_core.specs.Grants.{promise_of}
use Rattle.gateway_core.specs.PlanBounds.{IsMeasuredBy, IsFaultyBy}
use Rattle.gateway_core.specs.Messages.{message_body, link_status, link_text, reply_text}

abbrev pub finished_as : ℕ → List ℕ → Cost → Cost → Finished
finished_as status body bound charged = record { status = status; body = body; bound = bound; charged = charged }

-- This is the first test that the reply doesn't pass.
abbrev pub HasReplyFault : Grant → List ℕ → MeterFault → Type 0
HasReplyFault g reply fault = IsFaultyBy g.plan g.alias reply fault

-- A response is answered as it was measured, and charged its cost. Another reply is told by its fault, and charged the bound.
abbrev pub IsReplied : Grant → List ℕ → Finished → Type 0
IsReplied g reply f = ((metered : Metered) × IsMeasuredBy g.plan g.alias reply metered × (f ≡ finished_as 200 metered.text g.ticket.bound metered.cost))
    ⊎ ((fault : MeterFault) × HasReplyFault g reply fault × (f ≡ finished_as 502 (message_body (reply_text fault)) g.ticket.bound g.ticket.bound))

-- Where nobody answered the dial nothing is charged, and else the bound.
abbrev pub link_charge : Cost → LinkFault → Cost
link_charge bound Down = nothing
link_charge bound fault = bound

abbrev pub IsUnanswered : Cost → LinkFault → Finished → Type 0
IsUnanswered bound Memory f = ⊥
IsUnanswered bound fault f = f ≡ finished_as (link_status fault) (message_body (link_text fault)) bound (link_charge bound fault)

-- For want of memory the body is empty, and the bound is charged.
abbrev pub IsStarved : Cost → Finished → Type 0
IsStarved bound f = f ≡ finished_as 500 [] bound bound

-- A message is told with a status, or there was no memory for it.
abbrev pub IsTold : {E : Type 0} → Result (List ℕ) E → ℕ → Cost → Cost → Finished → Type 0
IsTold (Ok message) status bound charged f = (f ≡ finished_as status (message_body message) bound charged) ⊎ IsStarved bound f
IsTold (Err error) status bound charged f = IsStarved bound f

-- how it finishes by what the upstream made of it; for want of memory there is no other answer
abbrev pub IsConcluded : Grant → Outcome → Finished → Type 0
IsConcluded g (Reply reply) f = IsReplied g reply.body.items f
IsConcluded g (Fault fault) f = IsUnanswered g.ticket.bound fault f
IsConcluded g NoMemory f = ⊥

abbrev pub IsFinished : Grant → Outcome → Finished → Type 0
IsFinished g outcome f = IsConcluded g outcome f ⊎ IsStarved g.ticket.bound f

-- ---- what leaves one answer

-- Bodies that are the same; or, where the upstream replied, are answer texts of the one content and the one list of errors that its reply reads as.
abbrev pub AreBodiesAlike : Outcome → List ℕ → List ℕ → Type 0
AreBodiesAlike (Reply reply) body other = (body ≡ other) ⊎ AreTextsAlike reply.body.items body other
AreBodiesAlike (Fault fault) body other = body ≡ other
AreBodiesAlike NoMemory body other = body ≡ other

-- They have one status, one bound and one charge, and such bodies.
pub record AreAnsweredAlike (outcome : Outcome) (f other : Finished) : Type 0 where
  pub status : f.status ≡ other.status
  pub bound : f.bound ≡ other.bound
  pub charged : f.charged ≡ other.charged
  pub body : AreBodiesAlike outcome f.body other.body

-- It was granted for a body, by rules whose schema has no two types of one name (GraphQL October 2021, 3.3).
pub record IsGrantedBy (rules : Rules) (g : Grant) : Type 0 where
  pub differ : TypesDiffer rules.schema
  pub body : List ℕ
  pub promised : IsPromisedFor rules body (promise_of g)

-- ---- what is settled

-- the settlement of a grant
abbrev pub settling : Ticket → Cost → ClientCall
settling ticket charged = client_call ticket.client (settlement_of ticket charged) done
