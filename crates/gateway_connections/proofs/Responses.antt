-- A response is given where it is due.
use Rattle.std.proofs.Common.{◌≡◌, ◌≢◌, ◌⊎◌, ℕ, inl, inr, List, [], ◌∷◌, refl, sym, ap, ◌∙◌, subst, arith, length, Bool, true, false, Option, Result, Ok, Err}
use Rattle.std.specs.List.{AllByRecursion}
use Rattle.std.proofs.lemmas.Option.{none-some}
use Rattle.cost_num.specs.declared.Cost.{Cost}
use Rattle.account_core.specs.Machine.{reservation, granted}
use Rattle.account_shared.specs.Gains.{client_call}
use Rattle.outside.specs.Dials.{Dial}
use Rattle.http_front.specs.declared.reply.Hint.{Hint}
use Rattle.upstream_link.specs.declared.fault.LinkFault.{LinkFault}
use Rattle.upstream_link.specs.declared.fault.LinkFault.TheVariants as link
use Rattle.upstream_link.specs.declared.reply.UpstreamReply.{UpstreamReply}
use Rattle.upstream_link.specs.Exchanges.{CameTo}
use Rattle.upstream_link.specs.Replies.{ReplyOf}
use Rattle.upstream_link.specs.RequestBytes.{request_bytes}
use Rattle.gateway_core.specs.declared.beginning.Denial.{Denial}
use Rattle.gateway_core.specs.declared.beginning.Denial.TheVariants.{UnknownKey, Unexpanded, BadBody, Refused, NotLocal, Short, Full, Work, Memory}
use Rattle.gateway_core.specs.declared.finishing.Finished.{Finished}
use Rattle.gateway_core.specs.declared.grant.Grant.{Grant}
use Rattle.gateway_core.specs.Rules.{Rules, window_of}
use Rattle.gateway_core.specs.Requests.{IsPricedAt, IsPromisedFor, IsLocalAt}
use Rattle.gateway_core.specs.declared.beginning.Begun.TheVariants.{Denied}
use Rattle.gateway_core.specs.PassedOn.{Local}
use Rattle.gateway_core.specs.Numbers.{IsFullAt}
use Rattle.gateway_core.specs.Begins.{IsDenied, IsUnfit, IsVerdict, IsWritten, TellsFull, HasOneAnswer, calls_begun}
use Rattle.gateway_core.specs.Grants.{promise_of}
use Rattle.gateway_core.specs.PlanBounds.{IsMeasuredBy}
use Rattle.gateway_core.specs.Measures.{Metered, HasNamedTypes, IsMeasuredFor, AreMeasuredAlike, MeasuredIsAnswered}
use Rattle.gateway_core.specs.Finishes.{finished_as, IsUnanswered, IsStarved, IsFinished, settling}
use Rattle.gateway_core.specs.Messages.{denial_text, no_memory_text}
use Rattle.gateway_connections.specs.declared.reply.Reply.{Reply}
use Rattle.gateway_connections.specs.Replies.{Tells, IsDenialReply, finished_reply}
use Rattle.gateway_connections.specs.Exchanges.{Service, Exchange, WasForwarded, WasAnswered, IsExchange, outcome_of, hint_of}
use Rattle.gateway_connections.specs.Measured.{WasExchanged, WasShort, Brought, WasBrought, IsDue, WasGiven, WasGivenOr500, WasDueAndGiven, IsDueHere, WasGivenHere}

-- A body is unfit or has a price; what is granted is answered as its reply is measured; and bytes begin with one reply.
pub record OneResponse : Type 0 where
  pub priced : (rules : Rules) (body reply : List ℕ) (metered : Metered) → IsMeasuredFor rules body reply metered → (bound : Cost) × IsPricedAt rules body bound
  pub priced_or_unfit : (rules : Rules) (body : List ℕ) (bound : Cost) (denial : Denial) → IsVerdict denial → IsPricedAt rules body bound → IsUnfit rules body denial → ⊥
  pub local : (rules : Rules) (body : List ℕ) → HasOneAnswer rules body
  pub granted : (rules : Rules) (body : List ℕ) (g : Grant) → IsPromisedFor rules body (promise_of g) → IsPricedAt rules body g.ticket.bound
  pub finished : (rules : Rules) → HasNamedTypes rules → MeasuredIsAnswered rules
  pub no_fault : (bytes : List ℕ) (ended : Bool) (reply : UpstreamReply) (f : LinkFault) → ReplyOf (Ok reply) bytes ended → ReplyOf (Err f) bytes ended → f ≡ link.Memory
  pub one : (bytes : List ℕ) (ended : Bool) (a b : UpstreamReply) → ReplyOf (Ok a) bytes ended → ReplyOf (Ok b) bytes ended
      → (a.status ≡ b.status) × (a.body.items ≡ b.body.items)

-- ---- what was asked of the upstream

-- a reply with this body, or want of memory
abbrev IsReplyWith : List ℕ → Result UpstreamReply LinkFault → Type 0
IsReplyWith body asked = (asked ≡ Err link.Memory) ⊎ ((r : UpstreamReply) × (asked ≡ Ok r) × (r.body.items ≡ body))

by_bytes : OneResponse → (bytes : List ℕ) (ended : Bool) (reply : UpstreamReply) (asked : Result UpstreamReply LinkFault) → ReplyOf (Ok reply) bytes ended → ReplyOf asked bytes ended
    → IsReplyWith reply.body.items asked
by_bytes laws bytes ended reply (Ok r) a b = inr (r, refl, (laws.one bytes ended r reply b a).1)
by_bytes laws bytes ended reply (Err f) a b = inl (ap Err (laws.no_fault bytes ended reply f a b))

by_dials : OneResponse → (untouched : Type 0) (request : List ℕ) (asked : Result UpstreamReply LinkFault) (dials : List Dial) (reply : UpstreamReply) → CameTo untouched request asked dials
    → AllByRecursion (Brought reply) dials → IsReplyWith reply.body.items asked
by_dials laws untouched request asked [] reply came each = inl came.0
by_dials laws untouched request asked (d ∷ []) reply (inl down) each =
    let e : false ≡ true = sym (ap (λ (x : Dial). x.answered) down.missed) ∙ each.0.0 in absurd (cc e)
by_dials laws untouched request asked (d ∷ []) reply (inr (inl cut)) each = let e : true ≡ false = sym cut.marked ∙ each.0.1 in absurd (cc e)
by_dials laws untouched request asked (d ∷ []) reply (inr (inr answered)) each = by_bytes laws d.taken d.ended reply asked each.0.2 answered.taken
by_dials laws untouched request asked (d ∷ e ∷ dials) reply came each = absurd came

-- a reply was brought by just one dial
brought_by : (untouched : Type 0) (request : List ℕ) (reply : UpstreamReply) (dials : List Dial) → CameTo untouched request (Ok reply) dials
    → (d : Dial) × (dials ≡ d ∷ []) × Brought reply d
brought_by untouched request reply [] came = let e : ◌≡◌ {A = Result UpstreamReply LinkFault} (Ok reply) (Err link.Memory) = came.0 in absurd (cc e)
brought_by untouched request reply (d ∷ []) (inl down) = let e : ◌≡◌ {A = Result UpstreamReply LinkFault} (Ok reply) (Err link.Down) = down.down in absurd (cc e)
brought_by untouched request reply (d ∷ []) (inr (inl cut)) = let e : ◌≡◌ {A = Result UpstreamReply LinkFault} (Ok reply) (Err link.Failed) = cut.failed in absurd (cc e)
brought_by untouched request reply (d ∷ []) (inr (inr answered)) = (d, refl, (answered.answered, answered.marked, answered.taken))
brought_by untouched request reply (d ∷ e ∷ dials) came = absurd came

-- ---- where a response is due

-- it is of this status
status_of : (x : Exchange) (f : Finished) → x.reply ≡ finished_reply f → x.reply.status ≡ f.status
status_of x f is = ap (λ (r : Reply). r.status) is

starved_500 : (x : Exchange) (f : Finished) (bound : Cost) → x.reply ≡ finished_reply f → IsStarved bound f → x.reply.status ≡ 500
starved_500 x f bound is starved = status_of x f is ∙ ap (λ (g : Finished). g.status) starved

denied_500 : (x : Exchange) (hint : Option Hint) (message : List ℕ) → Tells hint 500 message x.reply → x.reply.status ≡ 500
denied_500 x hint message (inl told) = ap (λ (r : Reply). r.status) told
denied_500 x hint message (inr none) = ap (λ (r : Reply). r.status) none

-- a body to which a response is due is fit
fit : OneResponse → (s : Service) (made : ℕ) (x : Exchange) (metered : Metered) → IsDue s made x metered → (denial : Denial) → IsVerdict denial → IsUnfit s.rules x.ask.body.items denial → ⊥
fit laws s made x metered due denial told unfit =
    let p = laws.priced s.rules x.ask.body.items due.reply.body.items metered due.measured in laws.priced_or_unfit s.rules x.ask.body.items p.0 denial told p.1 unfit

-- without memory to ask the upstream there is none for an answer
starved : (g : Grant) (f : Finished) → IsFinished g (outcome_of (Err link.Memory)) f → IsStarved g.ticket.bound f
starved g f (inl never) = absurd never
starved g f (inr none) = none

-- a denial is for want of memory where a response is due
denied_due : OneResponse → (s : Service) (made : ℕ) (x : Exchange) (metered : Metered) (client : ℕ) (denial : Denial) → IsDenied s.rules x.ask.key x.ask.body.items client denial
    → x.calls ≡ calls_begun client (window_of s.rules x.moment) (Denied denial) → (hint : Option Hint) → IsDenialReply hint denial x.reply → TellsFull (IsFullAt s.slots made) (Denied denial)
    → IsDue s made x metered → x.reply.status ≡ 500
denied_due laws s made x metered client UnknownKey denied calls hint reply full due = absurd (none-some due.client (sym denied ∙ due.known))
denied_due laws s made x metered client (Unexpanded fault) denied calls hint reply full due = absurd (fit laws s made x metered due (Unexpanded fault) tt denied.1)
denied_due laws s made x metered client (BadBody fault) denied calls hint reply full due = absurd (fit laws s made x metered due (BadBody fault) tt denied.1)
denied_due laws s made x metered client (Refused refusal) denied calls hint reply full due = absurd (fit laws s made x metered due (Refused refusal) tt denied.1)
denied_due laws s made x metered client (NotLocal fault) denied calls hint reply full due = absurd (fit laws s made x metered due (NotLocal fault) tt denied.1)
denied_due laws s made x metered client (Short left bound) denied calls hint reply full due = absurd (due.covered (client, bound, left, calls))
denied_due laws s made x metered client Full denied calls hint (inl told) full due = absurd (due.room (full, (ap (λ (r : Reply). r.status) told, ap (λ (r : Reply). r.body) told)))
denied_due laws s made x metered client Full denied calls hint (inr none) full due = ap (λ (r : Reply). r.status) none
denied_due laws s made x metered client Work denied calls hint (inl told) full due = absurd (due.in_work (denied.1, (ap (λ (r : Reply). r.status) told, ap (λ (r : Reply). r.body) told)))
denied_due laws s made x metered client Work denied calls hint (inr none) full due = ap (λ (r : Reply). r.status) none
denied_due laws s made x metered client Memory denied calls hint reply full due = denied_500 x hint no_memory_text reply

given_by : (s : Service) (made : ℕ) (x : Exchange) (f : WasForwarded s made (Unit {0}) x) (metered : Metered)
    → f.finished ≡ finished_as 200 metered.text f.grant.ticket.bound metered.cost → WasGiven s x metered
given_by s made x f metered is =
    let ticket = f.grant.ticket in
    let charged : f.finished.charged ≡ metered.cost = ap (λ (g : Finished). g.charged) is in
    record {
      ticket = ticket;
      calls = f.calls ∙ (λ i. client_call (sym f.is_granted.to_client i) (reservation (window_of s.rules x.moment) ticket.bound) (granted ticket.window) ∷ settling ticket (charged i) ∷ []);
      replied = f.reply ∙ ap finished_reply is;
    }

-- the reply was measured in one way, which is alike, and was given so; or memory was wanting
abbrev IsGivenAlike : Service → Exchange → List ℕ → Metered → Type 0
IsGivenAlike s x reply metered = (own : Metered) × IsMeasuredFor s.rules x.ask.body.items reply own × AreMeasuredAlike reply metered own × WasGiven s x own

forwarded : OneResponse → (s : Service) (made : ℕ) (x : Exchange) (f : WasForwarded s made (Unit {0}) x) (reply : UpstreamReply) (metered : Metered) → HasNamedTypes s.rules
    → WasBrought reply x → IsMeasuredFor s.rules x.ask.body.items reply.body.items metered → IsGivenAlike s x reply.body.items metered ⊎ (x.reply.status ≡ 500)
forwarded laws s made x f reply metered named brought measured = elim (by_dials laws (Unit {0}) _ f.asked x.dials reply f.came_to brought) [
  | inl memory ↦ inr (starved_500 x f.finished f.grant.ticket.bound f.reply (starved f.grant f.finished (subst (λ a. IsFinished f.grant (outcome_of a) f.finished) memory f.is_finished)))
  | inr (r, is, same) ↦ elim (laws.finished s.rules named x.ask.key x.ask.body.items f.client made f.grant r metered f.finished f.is_granted
      (subst (λ l. IsMeasuredFor s.rules x.ask.body.items l metered) (sym same) measured) (subst (λ a. IsFinished f.grant (outcome_of a) f.finished) is f.is_finished)) [
        | inl (own, measured_too, alike, answered) ↦ inl (own, subst (λ l. IsMeasuredFor s.rules x.ask.body.items l own) same measured_too, subst (λ l. AreMeasuredAlike l metered own) same alike, given_by s made x f own answered)
        | inr none ↦ inr (starved_500 x f.finished f.grant.ticket.bound f.reply none)
      ]
]

-- a response is due as it was measured in another way
due_as : (s : Service) (made : ℕ) (x : Exchange) (metered own : Metered) (due : IsDue s made x metered) → IsMeasuredFor s.rules x.ask.body.items due.reply.body.items own → IsDue s made x own
due_as s made x metered own due measured = record {
  client = due.client;
  known = due.known;
  covered = due.covered;
  room = due.room;
  in_work = due.in_work;
  reply = due.reply;
  brought = due.brought;
  measured = measured;
}

given_alike : (s : Service) (made : ℕ) (x : Exchange) (metered : Metered) (due : IsDue s made x metered) → IsGivenAlike s x due.reply.body.items metered ⊎ (x.reply.status ≡ 500) → WasGivenOr500 s made x metered
unfolding due_as
given_alike s made x metered due (inl (own, measured, alike, given)) = inl (own, due_as s made x metered own due measured, alike, given)
given_alike s made x metered due (inr none) = inr none

-- what was answered by the gateway has a cost
local_at : (s : Service) (made : ℕ) (x : Exchange) (a : WasAnswered s made (Unit {0}) x) → IsLocalAt s.rules x.ask.body.items a.is_answered.answer.cost
local_at s made x a = (a.is_answered.answer, a.is_answered.answered, refl)

-- and isn't answered with 502
answered_no_502 : (s : Service) (made : ℕ) (x : Exchange) → WasAnswered s made (Unit {0}) x → x.reply.status ≡ 502 → ⊥
answered_no_502 s made x a at = by_text a.is_answered.finished
  where
    by_text : IsWritten a.is_answered.answer a.answer.finished → ⊥
    by_text (inl written) = let e : 200 ≡ 502 = sym (status_of x a.answer.finished a.reply ∙ ap (λ (g : Finished). g.status) written) ∙ at in omega (arith, e)
    by_text (inr none) = let e : 500 ≡ 502 = sym (starved_500 x a.answer.finished a.is_answered.answer.cost a.reply none) ∙ at in omega (arith, e)

-- a body to which a response is due has a price
price : OneResponse → (s : Service) (made : ℕ) (x : Exchange) (metered : Metered) → IsDue s made x metered → (bound : Cost) × IsPricedAt s.rules x.ask.body.items bound
price laws s made x metered due = laws.priced s.rules x.ask.body.items due.reply.body.items metered due.measured

pub given_where_due : OneResponse → (s : Service) (made : ℕ) (x : Exchange) (metered : Metered) → HasNamedTypes s.rules → IsExchange s made (Unit {0}) x → IsDue s made x metered → WasGivenOr500 s made x metered
given_where_due laws s made x metered named (inl d) due = inr (denied_due laws s made x metered d.client d.denial d.denied d.calls (hint_of s x.ask.key x.moment d.denial) d.reply d.full due)
given_where_due laws s made x metered named (inr (inr a)) due = absurd ((laws.local s.rules x.ask.body.items).not_priced (price laws s made x metered due).0 a.is_answered.answer.cost (price laws s made x metered due).1 (local_at s made x a))
given_where_due laws s made x metered named (inr (inl f)) due = given_alike s made x metered due (forwarded laws s made x f due.reply metered named due.brought due.measured)

-- ---- where the gateway's own answer is due

-- a denial is for want of memory there
denied_here : OneResponse → (s : Service) (made : ℕ) (x : Exchange) (answer : Local) (client : ℕ) (denial : Denial) → IsDenied s.rules x.ask.key x.ask.body.items client denial
    → x.calls ≡ calls_begun client (window_of s.rules x.moment) (Denied denial) → (hint : Option Hint) → IsDenialReply hint denial x.reply → TellsFull (IsFullAt s.slots made) (Denied denial)
    → IsDueHere s made x answer → x.reply.status ≡ 500
denied_here laws s made x answer client denial denied calls hint reply full due = each denial denied calls reply full
  where
    unfit : (other : Denial) → IsVerdict other → IsUnfit s.rules x.ask.body.items other → ⊥
    unfit other told = (laws.local s.rules x.ask.body.items).not_unfit answer.cost other told (answer, due.is_answer, refl)

    each : (other : Denial) → IsDenied s.rules x.ask.key x.ask.body.items client other → x.calls ≡ calls_begun client (window_of s.rules x.moment) (Denied other) → IsDenialReply hint other x.reply
        → TellsFull (IsFullAt s.slots made) (Denied other) → x.reply.status ≡ 500
    each UnknownKey is calls told full = absurd (none-some due.client (sym is ∙ due.known))
    each (Unexpanded fault) is calls told full = absurd (unfit (Unexpanded fault) tt is.1)
    each (BadBody fault) is calls told full = absurd (unfit (BadBody fault) tt is.1)
    each (Refused refusal) is calls told full = absurd (unfit (Refused refusal) tt is.1)
    each (NotLocal fault) is calls told full = absurd (unfit (NotLocal fault) tt is.1)
    each (Short left bound) is calls told full = absurd (due.covered (client, bound, left, calls))
    each Full is calls (inl told) full = absurd (due.room (full, (ap (λ (r : Reply). r.status) told, ap (λ (r : Reply). r.body) told)))
    each Full is calls (inr none) full = ap (λ (r : Reply). r.status) none
    each Work is calls (inl told) full = absurd (due.in_work (is.1, (ap (λ (r : Reply). r.status) told, ap (λ (r : Reply). r.body) told)))
    each Work is calls (inr none) full = ap (λ (r : Reply). r.status) none
    each Memory is calls told full = denied_500 x hint no_memory_text told

-- what was answered is the one answer, or there was no memory for it
answered_so : OneResponse → (s : Service) (made : ℕ) (x : Exchange) (answer : Local) → WasAnswered s made (Unit {0}) x → IsDueHere s made x answer → WasGivenHere s x answer ⊎ (x.reply.status ≡ 500)
answered_so laws s made x answer a due = by_text a.is_answered.finished
  where
    by_text : IsWritten a.is_answered.answer a.answer.finished → WasGivenHere s x answer ⊎ (x.reply.status ≡ 500)
    by_text (inl written) =
        let one = laws.local s.rules x.ask.body.items in
        let other = a.is_answered.answer in
        let texts : other.text ≡ answer.text = one.text other answer a.is_answered.answered due.is_answer in
        let costs : other.cost ≡ answer.cost = one.cost other.cost answer.cost (local_at s made x a) (answer, due.is_answer, refl) in
        inl record {
          client = a.client;
          given = a.answer;
          is_answer = written ∙ (λ i. finished_as 200 (texts i) (costs i) (costs i));
          calls = a.calls;
          replied = a.reply;
        }
    by_text (inr none) = inr (starved_500 x a.answer.finished a.is_answered.answer.cost a.reply none)

pub given_here : OneResponse → (s : Service) (made : ℕ) (x : Exchange) (answer : Local) → IsExchange s made (Unit {0}) x → IsDueHere s made x answer → WasGivenHere s x answer ⊎ (x.reply.status ≡ 500)
given_here laws s made x answer (inl d) due = inr (denied_here laws s made x answer d.client d.denial d.denied d.calls (hint_of s x.ask.key x.moment d.denial) d.reply d.full due)
given_here laws s made x answer (inr (inr a)) due = answered_so laws s made x answer a due
given_here laws s made x answer (inr (inl f)) due =
    absurd ((laws.local s.rules x.ask.body.items).not_priced f.grant.ticket.bound answer.cost (laws.granted s.rules x.ask.body.items f.grant f.is_granted.promised) (answer, due.is_answer, refl))

-- ---- where a response was given

tells_other : (hint : Option Hint) (status wanted : ℕ) (message : List ℕ) (r : Reply) → (status ≡ wanted → ⊥) → (500 ≡ wanted → ⊥) → Tells hint status message r → r.status ≡ wanted → ⊥
tells_other hint status wanted message r other starved (inl told) is = other (sym (ap (λ (q : Reply). q.status) told) ∙ is)
tells_other hint status wanted message r other starved (inr none) is = starved (sym (ap (λ (q : Reply). q.status) none) ∙ is)

-- no denial has such a status
record IsNoDenials (wanted : ℕ) : Type 0 where
  at_400 : 400 ≡ wanted → ⊥
  at_401 : 401 ≡ wanted → ⊥
  at_429 : 429 ≡ wanted → ⊥
  at_500 : 500 ≡ wanted → ⊥
  at_503 : 503 ≡ wanted → ⊥

no_denial : (wanted : ℕ) (hint : Option Hint) (denial : Denial) (r : Reply) → IsNoDenials wanted → IsDenialReply hint denial r → r.status ≡ wanted → ⊥
no_denial wanted hint UnknownKey r others told is = tells_other hint 401 wanted (denial_text UnknownKey) r others.at_401 others.at_500 told is
no_denial wanted hint (Unexpanded fault) r others told is = tells_other hint 400 wanted (denial_text (Unexpanded fault)) r others.at_400 others.at_500 told is
no_denial wanted hint (BadBody fault) r others told is = tells_other hint 400 wanted (denial_text (BadBody fault)) r others.at_400 others.at_500 told is
no_denial wanted hint (Refused refusal) r others told is = tells_other hint 400 wanted (denial_text (Refused refusal)) r others.at_400 others.at_500 told is
no_denial wanted hint (NotLocal fault) r others told is = tells_other hint 400 wanted (denial_text (NotLocal fault)) r others.at_400 others.at_500 told is
no_denial wanted hint (Short left bound) r others told is = tells_other hint 429 wanted (denial_text (Short left bound)) r others.at_429 others.at_500 told is
no_denial wanted hint Full r others told is = tells_other hint 503 wanted (denial_text Full) r others.at_503 others.at_500 told is
no_denial wanted hint Work r others told is = tells_other hint 400 wanted (denial_text Work) r others.at_400 others.at_500 told is
no_denial wanted hint Memory r others told is = tells_other hint 500 wanted (denial_text Memory) r others.at_500 others.at_500 told is

no_200 : IsNoDenials 200
no_200 = record { at_400 = λ e. omega (arith, e); at_401 = λ e. omega (arith, e); at_429 = λ e. omega (arith, e); at_500 = λ e. omega (arith, e); at_503 = λ e. omega (arith, e) }

no_502 : IsNoDenials 502
no_502 = record { at_400 = λ e. omega (arith, e); at_401 = λ e. omega (arith, e); at_429 = λ e. omega (arith, e); at_500 = λ e. omega (arith, e); at_503 = λ e. omega (arith, e) }

finished_other : (f : Finished) (status : ℕ) (body : List ℕ) (bound charged : Cost) → (status ≡ 200 → ⊥) → f ≡ finished_as status body bound charged → f.status ≡ 200 → ⊥
finished_other f status body bound charged other is at = other (sym (ap (λ (g : Finished). g.status) is) ∙ at)

-- where there is no reply of the upstream, the status is another
unanswered_other : (bound : Cost) (fault : LinkFault) (f : Finished) → IsUnanswered bound fault f → f.status ≡ 200 → ⊥
unanswered_other bound link.Down f is at = finished_other f 503 _ _ _ (λ e. omega (arith, e)) is at
unanswered_other bound link.Failed f is at = finished_other f 502 _ _ _ (λ e. omega (arith, e)) is at
unanswered_other bound link.BadReplyHead f is at = finished_other f 502 _ _ _ (λ e. omega (arith, e)) is at
unanswered_other bound link.Coded f is at = finished_other f 502 _ _ _ (λ e. omega (arith, e)) is at
unanswered_other bound link.TooLarge f is at = finished_other f 502 _ _ _ (λ e. omega (arith, e)) is at
unanswered_other bound link.Truncated f is at = finished_other f 502 _ _ _ (λ e. omega (arith, e)) is at
unanswered_other bound link.BadChunk f is at = finished_other f 502 _ _ _ (λ e. omega (arith, e)) is at
unanswered_other bound link.Memory f is at = absurd is

-- what was replied and measured, where it was answered with 200
abbrev IsMeasured : Grant → Result UpstreamReply LinkFault → Finished → Type 0
IsMeasured g asked f = (r : UpstreamReply) × (asked ≡ Ok r)
    × ((metered : Metered) × IsMeasuredBy g.plan g.alias r.body.items metered × (f ≡ finished_as 200 metered.text g.ticket.bound metered.cost))

measured_at : (g : Grant) (asked : Result UpstreamReply LinkFault) (f : Finished) → IsFinished g (outcome_of asked) f → f.status ≡ 200 → IsMeasured g asked f
measured_at g (Ok r) f (inl (inl measured)) at = (r, refl, measured)
measured_at g (Ok r) f (inl (inr (fault, faulty, is))) at = absurd (finished_other f 502 _ _ _ (λ e. omega (arith, e)) is at)
measured_at g (Ok r) f (inr none) at = absurd (finished_other f 500 _ _ _ (λ e. omega (arith, e)) none at)
measured_at g (Err fault) f (inl is) at = absurd (unanswered_other g.ticket.bound fault f is at)
measured_at g (Err fault) f (inr none) at = absurd (finished_other f 500 _ _ _ (λ e. omega (arith, e)) none at)

given_due : (s : Service) (made : ℕ) (x : Exchange) (f : WasForwarded s made (Unit {0}) x) → IsMeasured f.grant f.asked f.finished → WasDueAndGiven s made x
given_due s made x f (r, is, (metered, measured, answered)) =
    let request = request_bytes s.host s.target x.ask.passed.items f.grant.forward in
    let by = brought_by (Unit {0}) request r x.dials (subst (λ a. CameTo (Unit {0}) request a x.dials) is f.came_to) in (
      metered,
      record {
        client = f.client;
        known = f.is_granted.known;
        covered = λ (short : WasShort s x). (let e : 2 ≡ 1 = ap length (sym f.calls ∙ short.3) in omega (arith, e));
        room = λ full. (let e : 200 ≡ 503 = sym (status_of x f.finished f.reply ∙ ap (λ (g : Finished). g.status) answered) ∙ full.1.0 in omega (arith, e));
        in_work = λ spent. (let e : 200 ≡ 400 = sym (status_of x f.finished f.reply ∙ ap (λ (g : Finished). g.status) answered) ∙ spent.1.0 in omega (arith, e));
        reply = r;
        brought = subst (AllByRecursion (Brought r)) (sym by.1) (by.2, tt);
        measured = (promise_of f.grant, f.is_granted.promised, measured);
      },
      by,
      given_by s made x f metered answered,
    )

pub due_where_given : (s : Service) (made : ℕ) (x : Exchange) → IsExchange s made (Unit {0}) x → x.reply.status ≡ 200 → WasDueAndGiven s made x ⊎ WasAnswered s made (Unit {0}) x
due_where_given s made x (inl d) at = absurd (no_denial 200 (hint_of s x.ask.key x.moment d.denial) d.denial x.reply no_200 d.reply at)
due_where_given s made x (inr (inr a)) at = inr a
due_where_given s made x (inr (inl f)) at = inl (given_due s made x f (measured_at f.grant f.asked f.finished f.is_finished (sym (status_of x f.finished f.reply) ∙ at)))

-- ---- not both

abbrev body_or : UpstreamReply → Result UpstreamReply LinkFault → List ℕ
body_or r (Ok q) = q.body.items
body_or r (Err f) = r.body.items

same_body : (r : UpstreamReply) (body : List ℕ) (asked : Result UpstreamReply LinkFault) → asked ≡ Ok r → IsReplyWith body asked → r.body.items ≡ body
same_body r body asked is (inl memory) = let e : ◌≡◌ {A = Result UpstreamReply LinkFault} (Ok r) (Err link.Memory) = sym is ∙ memory in absurd (cc e)
same_body r body asked is (inr (q, is_too, same)) = ap (body_or r) (sym is ∙ is_too) ∙ same

-- a reply that was brought is measured where it was forwarded and answered with 200
measured_for : OneResponse → (s : Service) (made : ℕ) (x : Exchange) (reply : UpstreamReply) → WasForwarded s made (Unit {0}) x → WasBrought reply x → x.reply.status ≡ 200
    → (metered : Metered) × IsMeasuredFor s.rules x.ask.body.items reply.body.items metered
measured_for laws s made x reply f brought at =
    let got = measured_at f.grant f.asked f.finished f.is_finished (sym (status_of x f.finished f.reply) ∙ at) in
    let own : IsMeasuredFor s.rules x.ask.body.items got.0.body.items got.2.0 = (promise_of f.grant, f.is_granted.promised, got.2.1) in
    (got.2.0, subst (λ l. IsMeasuredFor s.rules x.ask.body.items l got.2.0) (same_body got.0 reply.body.items f.asked got.1 (by_dials laws (Unit {0}) _ f.asked x.dials reply f.came_to brought)) own)

given_status : (s : Service) (x : Exchange) (reply : List ℕ) (metered : Metered) → IsGivenAlike s x reply metered ⊎ (x.reply.status ≡ 500) → x.reply.status ≡ 502 → ⊥
given_status s x reply metered (inl (own, measured, alike, given)) at = let e : 200 ≡ 502 = sym (ap (λ (r : Reply). r.status) given.replied) ∙ at in omega (arith, e)
given_status s x reply metered (inr none) at = let e : 500 ≡ 502 = sym none ∙ at in omega (arith, e)

-- what is replied with 502 was forwarded
forwarded_at : (s : Service) (y : Exchange) → WasExchanged s y → y.reply.status ≡ 502 → (made : ℕ) × WasForwarded s made (Unit {0}) y
forwarded_at s y (made, inl d) at = absurd (no_denial 502 (hint_of s y.ask.key y.moment d.denial) d.denial y.reply no_502 d.reply at)
forwarded_at s y (made, inr (inl f)) at = (made, f)
forwarded_at s y (made, inr (inr a)) at = absurd (answered_no_502 s made y a at)

not_both_at : OneResponse → (s : Service) (made : ℕ) (x y : Exchange) (reply : UpstreamReply) → HasNamedTypes s.rules → WasExchanged s x → WasForwarded s made (Unit {0}) y
    → x.ask.body.items ≡ y.ask.body.items → WasBrought reply x → WasBrought reply y → x.reply.status ≡ 200 → y.reply.status ≡ 502 → ⊥
not_both_at laws s made x y reply named (other, inl d) f same brought brought_too at at_too = no_denial 200 (hint_of s x.ask.key x.moment d.denial) d.denial x.reply no_200 d.reply at
not_both_at laws s made x y reply named (other, inr (inl g)) f same brought brought_too at at_too =
    let measured = measured_for laws s other x reply g brought at in
    given_status s y reply.body.items measured.0
    (forwarded laws s made y f reply measured.0 named brought_too (subst (λ b. IsMeasuredFor s.rules b reply.body.items measured.0) same measured.1)) at_too
not_both_at laws s made x y reply named (other, inr (inr a)) f same brought brought_too at at_too =
    (laws.local s.rules y.ask.body.items).not_priced f.grant.ticket.bound a.is_answered.answer.cost (laws.granted s.rules y.ask.body.items f.grant f.is_granted.promised)
    (subst (λ b. IsLocalAt s.rules b a.is_answered.answer.cost) same (local_at s other x a))

pub not_both : OneResponse → (s : Service) (x y : Exchange) (reply : UpstreamReply) → HasNamedTypes s.rules → WasExchanged s x → WasExchanged s y → x.ask.body.items ≡ y.ask.body.items
    → WasBrought reply x → WasBrought reply y → x.reply.status ≡ 200 → y.reply.status ≡ 502 → ⊥
not_both laws s x y reply named of_x of_y same brought brought_too at at_too =
    let f = forwarded_at s y of_y at_too in not_both_at laws s f.0 x y reply named of_x f.1 same brought brought_too at at_too
