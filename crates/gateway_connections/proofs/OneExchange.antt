-- One exchange, and its turn.
use Rattle.std.proofs.Common.{◌≡◌, ℕ, ◌+◌, ◌≤◌, inl, inr, List, [], ◌∷◌, refl, sym, ◌∙◌, subst, arith, Bool, Option, Some, None, Result}
use Rattle.std.specs.Prelude.{IfSome}
use Rattle.std.specs.Io.KnownBytes.{Appends}
use Rattle.account_core.specs.Machine.{reservation, settlement, granted, done}
use Rattle.account_shared.specs.Gains.{ClientCall, client_call}
use Rattle.outside.specs.Contents.{AppendsFront}
use Rattle.outside.specs.Dials.{Dial, LoggedBy}
use Rattle.outside.specs.Faults.{RoseBy}
use Rattle.outside.specs.Ticks.{Tick}
use Rattle.outside.proofs.Readings.{ticks_one}
use Rattle.doors.specs.Visits.{Told}
use Rattle.http_front.specs.declared.fault.FrontFault.{FrontFault}
use Rattle.http_front.specs.declared.fault.FrontFault.TheVariants as fault
use Rattle.http_front.specs.declared.front.Ask.{Ask}
use Rattle.http_front.specs.Asks.{IsAsk}
use Rattle.upstream_link.specs.declared.fault.LinkFault.{LinkFault}
use Rattle.upstream_link.specs.declared.reply.UpstreamReply.{UpstreamReply}
use Rattle.upstream_link.specs.Exchanges.{CameTo}
use Rattle.gateway_core.specs.declared.beginning.Denial.{Denial}
use Rattle.gateway_core.specs.declared.beginning.Denial.TheVariants.{UnknownKey, Unexpanded, BadBody, Refused, NotLocal, Short, Full, Work, Memory}
use Rattle.gateway_core.specs.declared.beginning.Begun.TheVariants.{Denied}
use Rattle.gateway_core.specs.Rules.{window_of}
use Rattle.gateway_core.specs.Numbers.{numbers_taken, AreSettled}
use Rattle.gateway_core.specs.Begins.{TellsFull, calls_begun}
use Rattle.gateway_core.proofs.TakenNumbers.{few_taken}
use Rattle.gateway_connections.specs.declared.reply.Reply.{Reply}
use Rattle.gateway_connections.specs.declared.ending.ConnectionEnd.{ConnectionEnd}
use Rattle.gateway_connections.specs.declared.ending.ConnectionEnd.TheVariants as ending
use Rattle.gateway_connections.specs.declared.ending.Served.{Served}
use Rattle.gateway_connections.specs.Replies.{written}
use Rattle.gateway_connections.specs.Exchanges.{Service, Exchange, IsExchange, downs, failures}
use Rattle.gateway_connections.specs.Connections.{Answers, EndsAfter, IfEndsBy, Refuses, UnlessEndsBy, after_last}
use Rattle.gateway_connections.specs.Serving.{Makes, TurnsTo}
use Rattle.gateway_connections.proofs.Growing.{calls_one, dials_one, downs_one, failures_one}

pub some_then : (o : Option (List ℕ)) (P Q : List ℕ → Type 0) → ((kept : List ℕ) → P kept → Q kept) → IfSome o P → IfSome o Q
some_then None P Q f h = tt
some_then (Some kept) P Q f h = f kept h

pub at_some : (o : Option (List ℕ)) (kept : List ℕ) (P : List ℕ → Type 0) → o ≡ Some kept → IfSome o P → P kept
at_some o kept P e h = subst (λ v. IfSome v P) e h

-- ---- the calls of an exchange

denied_settled : (made client window : ℕ) (denial : Denial) → AreSettled made (calls_begun client window (Denied denial))
denied_settled made client window UnknownKey = inl refl
denied_settled made client window (Unexpanded f) = inl refl
denied_settled made client window (BadBody f) = inl refl
denied_settled made client window (NotLocal f) = inl refl
denied_settled made client window (Refused r) = inl refl
denied_settled made client window (Short left bound) = inr (inl (client, window, bound, left, refl))
denied_settled made client window Full = inl refl
denied_settled made client window Work = inl refl
denied_settled made client window Memory = inl refl

-- leave no grant open
pub exchange_settled : (s : Service) (made : ℕ) (Untouched : Type 0) (x : Exchange) → IsExchange s made Untouched x → AreSettled made x.calls
exchange_settled s made Untouched x (inl d) = subst (AreSettled made) (sym d.calls) (denied_settled made d.client (window_of s.rules x.moment) d.denial)
exchange_settled s made Untouched x (inr (inl f)) =
    let t = f.grant.ticket in
    let window = window_of s.rules x.moment in
    inr (inr (
      f.client,
      window,
      t.window,
      t.bound,
      f.finished.charged,
      f.calls ∙ (λ i. client_call f.client (reservation window t.bound) (granted t.window) ∷ client_call (f.is_granted.to_client i) (settlement (f.is_granted.numbered i) t.window t.bound f.finished.charged) done ∷ []),
    ))
exchange_settled s made Untouched x (inr (inr a)) =
    let f = a.answer.finished in
    let window = window_of s.rules x.moment in
    inr (inr (
      a.client,
      window,
      a.answer.window,
      f.bound,
      f.charged,
      a.calls ∙ (λ i. client_call a.client (reservation window f.bound) (granted a.answer.window) ∷ client_call a.client (settlement (a.is_answered.numbered i) a.answer.window f.bound f.charged) done ∷ []),
    ))

-- and take few numbers
pub few_more : (s : Service) (made now : ℕ) (Untouched : Type 0) (x : Exchange) → IsExchange s made Untouched x → now ≡ made + numbers_taken s.slots x.calls → now ≤ made + 2
few_more s made now Untouched x is counted = omega (arith, counted, few_taken s.slots made x.calls (exchange_settled s made Untouched x is))

-- where there is no room it is told, and only there, however that is said
pub tells_full : (NoRoom Fills : Type 0) → (NoRoom → Fills) → (Fills → NoRoom) → (denial : Denial) → TellsFull NoRoom (Denied denial) → TellsFull Fills (Denied denial)
tells_full NoRoom Fills to back UnknownKey told = tt
tells_full NoRoom Fills to back (Unexpanded f) told = tt
tells_full NoRoom Fills to back (BadBody f) told = tt
tells_full NoRoom Fills to back (NotLocal f) told = tt
tells_full NoRoom Fills to back (Refused r) told = tt
tells_full NoRoom Fills to back (Short left bound) told = λ full. told (back full)
tells_full NoRoom Fills to back Full told = to told
tells_full NoRoom Fills to back Work told = tt
tells_full NoRoom Fills to back Memory told = tt

came_anyhow : (Untouched : Type 0) (request : List ℕ) (r : Result UpstreamReply LinkFault) (dials : List Dial) → CameTo Untouched request r dials → CameTo (Unit {0}) request r dials
came_anyhow Untouched request r [] none = (none.0, tt)
came_anyhow Untouched request r (d ∷ []) came = came
came_anyhow Untouched request r (d ∷ e ∷ dials) came = absurd came

-- an exchange, whether the wire is as it was or not
pub exchange_anyhow : (s : Service) (made : ℕ) (Untouched : Type 0) (x : Exchange) → IsExchange s made Untouched x → IsExchange s made (Unit {0}) x
exchange_anyhow s made Untouched x (inl d) = inl record {
  client = d.client;
  denial = d.denial;
  denied = d.denied;
  calls = d.calls;
  full = d.full;
  outcome = d.outcome;
  dials = d.dials;
  untouched = tt;
  reply = d.reply;
}
exchange_anyhow s made Untouched x (inr (inr a)) = inr (inr record {
  client = a.client;
  answer = a.answer;
  is_answered = a.is_answered;
  room = a.room;
  calls = a.calls;
  outcome = a.outcome;
  dials = a.dials;
  untouched = tt;
  reply = a.reply;
})
exchange_anyhow s made Untouched x (inr (inl f)) = inr (inl record {
  client = f.client;
  grant = f.grant;
  is_granted = f.is_granted;
  room = f.room;
  asked = f.asked;
  came_to = came_anyhow Untouched _ f.asked x.dials f.came_to;
  outcome = f.outcome;
  finished = f.finished;
  is_finished = f.is_finished;
  bound = f.bound;
  calls = f.calls;
  reply = f.reply;
})

-- just one exchange was made
pub made_one : (Gained : List ClientCall → Type 0) (given back : Told) (x : Exchange) (moment : ℕ) → Gained x.calls → x.moment ≡ moment → Tick given.readings moment back.readings
    → LoggedBy back.dial_faults given.log x.dials back.log → RoseBy (downs x.outcome) given.dial_faults back.dial_faults → RoseBy (failures x.outcome) given.transfer_faults back.transfer_faults
    → Makes Gained given back (x ∷ [])
made_one Gained given back x moment gains at tick logged down failed = record {
  gains = subst Gained (sym (calls_one x)) gains;
  leaves = record {
    ticks = ticks_one given.readings back.readings x.moment (subst (λ m. Tick given.readings m back.readings) (sym at) tick);
    logged = subst (λ d. LoggedBy back.dial_faults given.log d back.log) (sym (dials_one x)) logged;
    downs = subst (λ n. RoseBy n given.dial_faults back.dial_faults) (sym (downs_one x)) down;
    failures = subst (λ n. RoseBy n given.transfer_faults back.transfer_faults) (sym (failures_one x)) failed;
  };
}

-- its turn
pub turned_by : (s : Service) (number made : ℕ) (here rest : List ℕ) (ended : Bool) (front : Option (List ℕ)) (x : Exchange) (before after : Option (List ℕ)) (r : Option Served)
    → IsAsk s.passed here x.ask rest → front ≡ Some rest → IsExchange s made (Unit {0}) x → Answers x.reply x.ask.close number before after r
    → TurnsTo s number made here ended front (x ∷ []) before after r
turned_by s number made here rest ended front x before after None ask kept is a = (x, rest, refl, ask, kept, is, a.0, a.1)
turned_by s number made here rest ended front x before after (Some served) ask kept is (inl a) =
    (after_last x, refl, ((rest, ask), is), inl (subst (λ b. Appends before after (written b x.reply)) (sym a.0) a.1, a.2, (a.0, a.3)))
turned_by s number made here rest ended front x before after (Some served) ask kept is (inr a) =
    (after_last x, refl, ((rest, ask), is), inr a)

-- an answer to what was asked is one to the exchange
pub answers_exchange : (x : Exchange) (ask : Ask) (reply : Reply) (number : ℕ) (before after : Option (List ℕ)) (r : Option Served) → x.ask ≡ ask → x.reply ≡ reply
    → Answers reply ask.close number before after r → Answers x.reply x.ask.close number before after r
answers_exchange x ask reply number before after r e f a =
    subst (λ t. Answers t x.ask.close number before after r) (sym f) (subst (λ (k : Ask). Answers reply k.close number before after r) (sym e) a)

-- what holds anyway
pub unless_anyway : (end : ConnectionEnd) (r : Option Served) (P : Type 0) → P → UnlessEndsBy end r P
unless_anyway end None P holds = holds
unless_anyway end (Some served) P holds = λ other. holds

-- no reply ends a connection as a failing source does
not_by_reading : (number status : ℕ) (end : ConnectionEnd) → EndsAfter number status end → end ≡ ending.ReadFault → ⊥
not_by_reading number status end (inl out) is = cc (out.1, is)
not_by_reading number status end (inr (inl out)) is = cc (out.2, is)
not_by_reading number status end (inr (inr out)) is = cc (out.2, is)

pub no_read_fault : (r : Reply) (close : Bool) (number : ℕ) (before after : Option (List ℕ)) (turned : Option Served) (P : Type 0) → Answers r close number before after turned
    → IfEndsBy ending.ReadFault turned P
no_read_fault r close number before after None P answers = tt
no_read_fault r close number before after (Some served) P (inl out) = λ is. absurd (not_by_reading number r.status served.end out.3 is)
no_read_fault r close number before after (Some served) P (inr out) = λ is. absurd (cc (out.2, is))

-- where the source failed, the end says so
pub refused_read : (f : FrontFault) (number : ℕ) (before after : Option (List ℕ)) (count : ℕ) (end : ConnectionEnd) → Refuses f number before after count end → f ≡ fault.ReadFault
    → end ≡ ending.ReadFault
refused_read f number before after count end refuses is = at_read (subst (λ g. Refuses g number before after count end) is refuses)
  where
    no_front : (a b : Option (List ℕ)) → AppendsFront a b [] → ⊥
    no_front a b x = absurd (omega (arith, x.1))

    at_read : Refuses fault.ReadFault number before after count end → end ≡ ending.ReadFault
    at_read (None, silent, inl out) = out.2
    at_read (None, silent, inr out) = absurd (no_front before after out.0)
    at_read (Some r, silent, out) = absurd (cc silent)
