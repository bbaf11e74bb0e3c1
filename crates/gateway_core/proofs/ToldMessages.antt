-- What is answered by a message.
use Rattle.std.proofs.Common.{◌≡◌, ◌≢◌, ◌⊎◌, inl, inr, ℕ, List, refl, sym, ap, ◌∙◌, subst, arith, Result, Ok, Err}
use Rattle.std.specs.Prelude.{IfOk}
use Rattle.cost_num.specs.declared.Cost.{Cost}
use Rattle.cost_num.specs.Within.{Within}
use Rattle.upstream_link.specs.declared.fault.LinkFault.{LinkFault}
use Rattle.upstream_link.specs.declared.fault.LinkFault.TheVariants.{Down, Failed, BadReplyHead, Coded, TooLarge, Truncated, BadChunk, Memory}
use Rattle.response_model.specs.Plan.{Plan as PlanTree}
use Rattle.plan_table.specs.TableBounds.{HoldsSound}
use Rattle.response_meter.specs.declared.fault.MeterFault.{MeterFault}
use Rattle.response_meter.specs.declared.fault.MeterFault.TheVariants.{Memory as MeterMemory}
use Rattle.response_meter.specs.Faults.{Tells}
use Rattle.response_meter.specs.Metered.{first_fault_in}
use Rattle.gateway_core.specs.declared.finishing.Finished.{Finished}
use Rattle.gateway_core.specs.declared.grant.Grant.{Grant}
use Rattle.gateway_core.specs.Messages.{message_body, link_status, link_text, reply_text}
use Rattle.gateway_core.specs.Finishes.{finished_as, IsStarved, IsTold, IsReplied, link_charge, IsUnanswered}

-- this is answered, or there was no memory
abbrev pub Answers : Finished → Cost → Finished → Type 0
Answers wanted bound f = (f ≡ wanted) ⊎ IsStarved bound f

pub told_as : {E : Type 0} (message : Result (List ℕ) E) (text : List ℕ) (status : ℕ) (bound charged : Cost) (f : Finished)
    → IfOk message (λ told. told ≡ text) → IsTold message status bound charged f → Answers (finished_as status (message_body text) bound charged) bound f
told_as (Ok message) text status bound charged f is (inl told) = inl (told ∙ ap (λ t. finished_as status (message_body t) bound charged) is)
told_as (Ok message) text status bound charged f is (inr starved) = inr starved
told_as (Err error) text status bound charged f is starved = inr starved

pub all_within : (bound : Cost) → Within bound bound
all_within bound = record { types = omega arith; fields = omega arith }

pub within_told : (wanted : Finished) (bound : Cost) (f : Finished) → Within bound wanted.charged → Answers wanted bound f → Within bound f.charged
within_told wanted bound f within (inl told) = subst (λ (g : Finished). Within bound g.charged) (sym told) within
within_told wanted bound f within (inr starved) = subst (λ (g : Finished). Within bound g.charged) (sym starved) (all_within bound)

pub charge_within : (bound : Cost) (fault : LinkFault) → Within bound (link_charge bound fault)
charge_within bound Down = record { types = omega arith; fields = omega arith }
charge_within bound Failed = all_within bound
charge_within bound BadReplyHead = all_within bound
charge_within bound Coded = all_within bound
charge_within bound TooLarge = all_within bound
charge_within bound Truncated = all_within bound
charge_within bound BadChunk = all_within bound
charge_within bound Memory = all_within bound

pub unanswered_as : (fault : LinkFault) (bound : Cost) (f : Finished) → fault ≢ Memory
    → Answers (finished_as (link_status fault) (message_body (link_text fault)) bound (link_charge bound fault)) bound f → IsUnanswered bound fault f ⊎ IsStarved bound f
unanswered_as Down bound f other answers = answers
unanswered_as Failed bound f other answers = answers
unanswered_as BadReplyHead bound f other answers = answers
unanswered_as Coded bound f other answers = answers
unanswered_as TooLarge bound f other answers = answers
unanswered_as Truncated bound f other answers = answers
unanswered_as BadChunk bound f other answers = answers
unanswered_as Memory bound f other answers = absurd (other refl)

-- a reply that doesn't pass a test is told by it
pub replied_as : (g : Grant) (reply : List ℕ) (fault : MeterFault) (f : Finished) → fault ≢ MeterMemory
    → ((tree : PlanTree) → HoldsSound g.plan tree → Tells fault (first_fault_in g.plan g.alias tree reply))
    → Answers (finished_as 502 (message_body (reply_text fault)) g.ticket.bound g.ticket.bound) g.ticket.bound f → IsReplied g reply f ⊎ IsStarved g.ticket.bound f
replied_as g reply fault f other first (inl told) = inl (inr (fault, (other, first), told))
replied_as g reply fault f other first (inr starved) = inr starved
