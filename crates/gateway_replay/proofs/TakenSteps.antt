-- What taking a step makes of the open requests.
use Rattle.std.proofs.Common.{◌≡◌, ◌⊎◌, ⊎_elim, inr, ℕ, ◌+◌, ◌≤◌, List, [], ◌∷◌, sym, ap, subst, arith, Some, length}
use Rattle.std.proofs.lemmas.List.{length-append, length-map}
use Rattle.account_core.specs.Machine.{reservation, granted}
use Rattle.account_shared.specs.Views.{PassesView, IsOpen}
use Rattle.account_shared.specs.Gains.{client_call, Gains}
use Rattle.replay_scripts.specs.Steps.{StepData, begins, ends, ReturnedData, reply, down, failed}
use Rattle.upstream_link.specs.declared.fault.LinkFault.TheVariants as link
use Rattle.gateway_core.specs.declared.beginning.Begun.TheVariants.{Granted, Answered, Denied}
use Rattle.gateway_core.specs.declared.beginning.Denial.TheVariants.{UnknownKey, Unexpanded, BadBody, Refused, NotLocal, Short, Full, Work, Memory}
use Rattle.gateway_core.specs.declared.finishing.Outcome.{Outcome}
use Rattle.gateway_core.specs.declared.finishing.Outcome.TheVariants.{Reply, Fault, NoMemory}
use Rattle.gateway_core.specs.declared.finishing.Finished.{Finished}
use Rattle.gateway_core.specs.declared.grant.Grant.{Grant}
use Rattle.gateway_core.specs.Rules.{Rules, window_of}
use Rattle.gateway_core.specs.Finishes.{IsFinished, IsStarved}
use Rattle.gateway_replay.specs.declared.opened.Open.{Open}
use Rattle.gateway_replay.specs.declared.told.Told.{Told}
use Rattle.gateway_replay.specs.Turns.{OpenRequest, open_request, open_by, How, begun_as, no_room, finished_with, not_open, IsAnswered, ComesTo, calls_of_step, opens_past_step}
use Rattle.gateway_replay.specs.Stretches.{requests_of, request_of, IsTaken, IsOutcome, JustOpen}
use Rattle.gateway_replay.proofs.OpenGrants.{just_none, just_short, just_both, just_granted, just_settled, open_just, parted}

pub just_taken : (rules : Rules) (p q : PassesView) (opens left : List OpenRequest) (step : StepData) (told : Told) → IsTaken rules p opens step told q left → JustOpen p opens → JustOpen q left
just_taken rules p q opens left step told t j = subst (JustOpen q) (sym t.left_are) (after step t.how t.comes t.calls)
  where
    after : (step : StepData) (how : How) → ComesTo rules p.made opens step how → Gains p q (calls_of_step rules step how) → JustOpen q (opens_past_step opens step how)
    after (begins id key moment body) (begun_as client (Granted g)) c gains =
        just_granted p q opens (open_request id g) (window_of rules moment)
        (subst (λ k. Gains p q (client_call k (reservation (window_of rules moment) g.ticket.bound) (granted g.ticket.window) ∷ [])) (sym c.0.to_client) gains) c.0.numbered j
    after (begins id key moment body) (begun_as client (Answered a)) c gains = just_both p q opens client (window_of rules moment) a c.0.numbered gains j
    after (begins id key moment body) (begun_as client (Denied UnknownKey)) c gains = just_none p q opens gains j
    after (begins id key moment body) (begun_as client (Denied (Unexpanded fault))) c gains = just_none p q opens gains j
    after (begins id key moment body) (begun_as client (Denied (BadBody fault))) c gains = just_none p q opens gains j
    after (begins id key moment body) (begun_as client (Denied (Refused refusal))) c gains = just_none p q opens gains j
    after (begins id key moment body) (begun_as client (Denied (NotLocal fault))) c gains = just_none p q opens gains j
    after (begins id key moment body) (begun_as client (Denied Full)) c gains = absurd c.1
    after (begins id key moment body) (begun_as client (Denied (Short left bound))) c gains = just_short p q opens client (window_of rules moment) bound left gains j
    after (begins id key moment body) (begun_as client (Denied Work)) c gains = just_none p q opens gains j
    after (begins id key moment body) (begun_as client (Denied Memory)) c gains = just_none p q opens gains j
    after (begins id key moment body) no_room c gains = just_none p q opens gains j
    after (begins id key moment body) (finished_with request answer) c gains = absurd c
    after (begins id key moment body) not_open c gains = absurd c
    after (ends id returned) (finished_with request answer) c gains =
        let part = parted id opens request c.0 in
        subst (JustOpen q) (sym part.without) (just_settled p q part.front part.rest request answer.charged gains (subst (JustOpen p) part.whole j))
    after (ends id returned) not_open c gains = just_none p q opens gains j
    after (ends id returned) (begun_as client answer) c gains = absurd c
    after (ends id returned) no_room c gains = absurd c

count_past : (rules : Rules) (made : ℕ) (opens : List OpenRequest) (step : StepData) (how : How) → ComesTo rules made opens step how → length (opens_past_step opens step how) ≤ length opens + 1
count_past rules made opens (begins id key moment body) (begun_as client (Granted g)) c = omega (arith, length-append opens (open_request id g ∷ []))
count_past rules made opens (begins id key moment body) (begun_as client (Answered a)) c = omega arith
count_past rules made opens (begins id key moment body) (begun_as client (Denied denial)) c = omega arith
count_past rules made opens (begins id key moment body) no_room c = omega arith
count_past rules made opens (begins id key moment body) (finished_with request answer) c = absurd c
count_past rules made opens (begins id key moment body) not_open c = absurd c
count_past rules made opens (ends id returned) (finished_with request answer) c =
    let part = parted id opens request c.0 in
    omega (arith, ap length part.whole, ap length part.without, length-append part.front (request ∷ part.rest), length-append part.front part.rest)
count_past rules made opens (ends id returned) not_open c = omega arith
count_past rules made opens (ends id returned) (begun_as client answer) c = absurd c
count_past rules made opens (ends id returned) no_room c = absurd c

pub count_taken : (rules : Rules) (p q : PassesView) (old new : List Open) (step : StepData) (told : Told) → IsTaken rules p (requests_of old) step told q (requests_of new) → length new ≤ length old + 1
count_taken rules p q old new step told t =
    let past = count_past rules p.made (requests_of old) step t.how t.comes in
    let are = ap length t.left_are in
    let olds = length-map old request_of in
    let news = length-map new request_of in
    omega (arith, past, are, olds, news)

few_calls : (rules : Rules) (made : ℕ) (opens : List OpenRequest) (step : StepData) (how : How) → ComesTo rules made opens step how → length (calls_of_step rules step how) ≤ 2
few_calls rules made opens (begins id key moment body) (begun_as client (Granted g)) c = omega arith
few_calls rules made opens (begins id key moment body) (begun_as client (Answered a)) c = omega arith
few_calls rules made opens (begins id key moment body) (begun_as client (Denied UnknownKey)) c = omega arith
few_calls rules made opens (begins id key moment body) (begun_as client (Denied (Unexpanded fault))) c = omega arith
few_calls rules made opens (begins id key moment body) (begun_as client (Denied (BadBody fault))) c = omega arith
few_calls rules made opens (begins id key moment body) (begun_as client (Denied (Refused refusal))) c = omega arith
few_calls rules made opens (begins id key moment body) (begun_as client (Denied (NotLocal fault))) c = omega arith
few_calls rules made opens (begins id key moment body) (begun_as client (Denied Full)) c = absurd c.1
few_calls rules made opens (begins id key moment body) (begun_as client (Denied (Short left bound))) c = omega arith
few_calls rules made opens (begins id key moment body) (begun_as client (Denied Work)) c = omega arith
few_calls rules made opens (begins id key moment body) (begun_as client (Denied Memory)) c = omega arith
few_calls rules made opens (begins id key moment body) no_room c = omega arith
few_calls rules made opens (begins id key moment body) (finished_with request answer) c = absurd c
few_calls rules made opens (begins id key moment body) not_open c = absurd c
few_calls rules made opens (ends id returned) (finished_with request answer) c = omega arith
few_calls rules made opens (ends id returned) not_open c = omega arith
few_calls rules made opens (ends id returned) (begun_as client answer) c = absurd c
few_calls rules made opens (ends id returned) no_room c = absurd c

pub few_taken : (rules : Rules) (p q : PassesView) (opens left : List OpenRequest) (step : StepData) (told : Told) → IsTaken rules p opens step told q left → q.made ≤ p.made + 2
few_taken rules p q opens left step told t =
    let few = few_calls rules p.made opens step t.how t.comes in
    let made = t.calls.made in
    omega (arith, few, made)

-- what is open is open in the passes
pub open_held : (p : PassesView) (opens : List OpenRequest) (id : List ℕ) (r : OpenRequest) → JustOpen p opens → open_by id opens ≡ Some r → IsOpen p r.grant.ticket.client r.grant.ticket.seq r.grant.ticket.window r.grant.ticket.bound
open_held p opens id r j is = let part = parted id opens r is in open_just p part.front part.rest r (subst (JustOpen p) part.whole j)

pub answered : (g : Grant) (returned : ReturnedData) (outcome : Outcome) (f : Finished) → IsOutcome returned outcome → IsFinished g outcome f → IsAnswered g returned f ⊎ IsStarved g.ticket.bound f
answered g (reply body) NoMemory f same h = inr (⊎_elim (λ x. absurd x) (λ x. x) h)
answered g down NoMemory f same h = inr (⊎_elim (λ x. absurd x) (λ x. x) h)
answered g failed NoMemory f same h = inr (⊎_elim (λ x. absurd x) (λ x. x) h)
answered g (reply body) (Reply copy) f same h = subst (λ b. IsAnswered g (reply b) f ⊎ IsStarved g.ticket.bound f) same h
answered g down (Fault link.Down) f same h = h
answered g failed (Fault link.Failed) f same h = h
answered g (reply body) (Fault fault) f same h = absurd same
answered g down (Reply copy) f same h = absurd same
answered g failed (Reply copy) f same h = absurd same
answered g down (Fault fault) f same h = absurd same
answered g failed (Fault fault) f same h = absurd same
