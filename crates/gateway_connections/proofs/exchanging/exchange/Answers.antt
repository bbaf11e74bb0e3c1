use Rattle.std.proofs.Common.{◌≡◌, ◌⊎◌, ℕ, ◌∷◌, [], inl, inr, refl, subst, arith, Some, None}
use Rattle.std.specs.Prelude.{◌≢◌}
use Rattle.http_front.specs.ReplyBytes.{status_text}
use Rattle.account_core.specs.Machine.{reservation, granted}
use Rattle.account_shared.specs.Gains.{client_call}
use Rattle.outside.proofs.Dialling.{logged_none}
use Rattle.outside.proofs.Rises.{rose_by_none}
use Rattle.gateway_core.specs.declared.beginning.Begun.TheVariants.{Denied}
use Rattle.gateway_core.specs.Rules.{window_of}
use Rattle.gateway_core.specs.Gates.{rules_of}
use Rattle.gateway_core.specs.Numbers.{IsFullAt}
use Rattle.gateway_core.specs.Begins.{Begins, TellsFull, IfAnswered, IsGiven, calls_begun, calls_answered, IsGranted, IsAnswered, IsDenied}
use Rattle.gateway_core.specs.Finishes.{settling}
use Rattle.gateway_core.specs.Losses.{LosesBegun}
use Rattle.gateway_core.proofs.TakenNumbers.{granted_taken}
use Rattle.gateway_core.proofs.LostAccounts.{on_err, rose_since}
use Rattle.upstream_link.specs.Exchanges.{CameTo}
use Rattle.upstream_link.specs.RequestBytes.{request_bytes}
use Rattle.gateway_connections.specs.Replies.{IsDenialReply}
use Rattle.gateway_connections.specs.Exchanges.{LosesForwarded, LosesExchange, outcome_of, service_in, hint_of, telling}
use Rattle.gateway_connections.proofs.OneExchange.{tells_full, exchange_settled, few_more}
use Rattle.gateway_connections.proofs.exchanging.exchange.Goals as goal

-- what is granted takes one number
pub forward-requires-clause-made : goal.forward-requires-clause-made
forward-requires-clause-made g c =
    let book = c.args.ledger.now in
    let rules = rules_of c.args.gate.now in
    let ticket = c.in-Granted.grant.ticket in
    let begun = subst (Begins rules (g.L.Ledger.made book) (g.L.Ledger.gains book c.begin_in.new.ledger) c.as_str.result.now c.deref.result.now c.args.moment) c.in-Granted.is c.in_ok-begun.ensures.begun in
    omega (arith, c.requires.made, g.met.L.Ledger.counts book c.begin_in.new.ledger _ begun.2, granted_taken g.L.Ledger.slots begun.0 (window_of rules c.args.moment) ticket.window ticket.bound)

pub returns-in_ok-forward-in-Granted-clause-replied : goal.returns-in_ok-forward-in-Granted-clause-replied
returns-in_ok-forward-in-Granted-clause-replied g c =
    let book = c.args.ledger.now in
    let middle = c.begin_in.new.ledger in
    let rules = rules_of c.args.gate.now in
    let window = window_of rules c.args.moment in
    let begun = subst (Begins rules (g.L.Ledger.made book) (g.L.Ledger.gains book middle) c.as_str.result.now c.deref.result.now c.args.moment) c.in-Granted.is c.in_ok-begun.ensures.begun in
    let full = subst (TellsFull (g.L.Ledger.full book)) c.in-Granted.is c.in_ok-begun.ensures.full in
    let ticket = c.in-Granted.grant.ticket in
    let f = c.in_ok-forward-in-Granted.ensures.forwarded in
    let first = client_call begun.0 (reservation window ticket.bound) (granted ticket.window) ∷ [] in
    let second = settling ticket f.finished.charged ∷ [] in
    record {
      exchange = record { ask = c.args.ask.now; moment = c.args.moment; calls = client_call begun.0 (reservation window ticket.bound) (granted ticket.window) ∷ settling ticket f.finished.charged ∷ []; outcome = Some (outcome_of f.asked); dials = f.dials; reply = c.in_ok-forward-in-Granted.field-0 };
      asked = refl;
      at = refl;
      replied = refl;
      exchanges = record {
        is_exchange = inr (inl record {
          client = begun.0;
          grant = c.in-Granted.grant;
          is_granted = subst (λ key. IsGranted rules key c.args.ask.now.body.items begun.0 (g.L.Ledger.made book) c.in-Granted.grant) c.as_str.ensures
              (subst (λ body. IsGranted rules c.as_str.result.now body begun.0 (g.L.Ledger.made book) c.in-Granted.grant) c.deref.ensures.value begun.1);
          room = λ fills. full (g.met.L.Ledger.has_room book c.requires.idle fills);
          asked = f.asked;
          came_to = subst (λ lines. CameTo (c.forward.new.wire ≡ c.args.wire.now) (request_bytes c.args.gate.now.settings.host c.args.gate.now.settings.target lines c.in-Granted.grant.forward) f.asked f.dials) c.deref-in-Granted.ensures.value f.came_to;
          outcome = refl;
          finished = f.finished;
          is_finished = f.is_finished;
          bound = f.bound;
          calls = refl;
          reply = f.replied;
        });
        gains = g.met.L.Ledger.gains_then book middle c.forward.new.ledger first second begun.2 f.gains;
        logged = f.logged;
        downs = f.downs;
        failures = f.failures;
      };
    }

pub returns-in_ok-forward-in-Granted-clause-idle : goal.returns-in_ok-forward-in-Granted-clause-idle
returns-in_ok-forward-in-Granted-clause-idle g c =
    let r = returns-in_ok-forward-in-Granted-clause-replied g c in
    let x = r.exchange in
    g.met.L.Ledger.stays_idle c.args.ledger.now c.forward.new.ledger x.calls r.exchanges.gains
    (exchange_settled (service_in g.L.Ledger.slots c.args.gate.now) (g.L.Ledger.made c.args.ledger.now) (c.forward.new.wire ≡ c.args.wire.now) x r.exchanges.is_exchange) c.requires.idle

pub returns-in_ok-forward-in-Granted-clause-few : goal.returns-in_ok-forward-in-Granted-clause-few
returns-in_ok-forward-in-Granted-clause-few g c =
    let r = returns-in_ok-forward-in-Granted-clause-replied g c in
    let x = r.exchange in
    few_more (service_in g.L.Ledger.slots c.args.gate.now) (g.L.Ledger.made c.args.ledger.now) (g.L.Ledger.made c.forward.new.ledger) (c.forward.new.wire ≡ c.args.wire.now) x r.exchanges.is_exchange
    (g.met.L.Ledger.counts c.args.ledger.now c.forward.new.ledger x.calls r.exchanges.gains)

pub returns-in-Denied-clause-replied : goal.returns-in-Denied-clause-replied
returns-in-Denied-clause-replied g c =
    let book = c.args.ledger.now in
    let rules = rules_of c.args.gate.now in
    let denial = c.in-Denied.denial in
    let begun = subst (Begins rules (g.L.Ledger.made book) (g.L.Ledger.gains book c.begin_in.new.ledger) c.as_str.result.now c.deref.result.now c.args.moment) c.in-Denied.is c.in_ok-begun.ensures.begun in
    let full = subst (TellsFull (g.L.Ledger.full book)) c.in-Denied.is c.in_ok-begun.ensures.full in
    record {
      exchange = record { ask = c.args.ask.now; moment = c.args.moment; calls = calls_begun begun.0 (window_of rules c.args.moment) (Denied denial); outcome = None; dials = []; reply = c.denial_reply.result };
      asked = refl;
      at = refl;
      replied = refl;
      exchanges = record {
        is_exchange = inl record {
          client = begun.0;
          denial = denial;
          denied = subst (λ key. IsDenied rules key c.args.ask.now.body.items begun.0 denial) c.as_str.ensures
              (subst (λ body. IsDenied rules c.as_str.result.now body begun.0 denial) c.deref.ensures.value begun.1);
          calls = refl;
          full = tells_full (g.L.Ledger.full book) (IsFullAt g.L.Ledger.slots (g.L.Ledger.made book)) (g.met.L.Ledger.fills book c.requires.idle) (g.met.L.Ledger.has_room book c.requires.idle) denial full;
          outcome = refl;
          dials = refl;
          untouched = refl;
          reply = subst (λ hint. IsDenialReply hint denial c.denial_reply.result) {y = hint_of (service_in g.L.Ledger.slots c.args.gate.now) c.args.ask.now.key c.args.moment denial} c.hint_of.ensures.hint c.denial_reply.ensures.reply;
        };
        gains = begun.2;
        logged = inl (logged_none (g.W.Wire.log c.args.wire.now));
        downs = rose_by_none (g.W.Wire.dial_faults c.args.wire.now) (g.W.Wire.dial_faults c.args.wire.now) (omega arith);
        failures = rose_by_none (g.W.Wire.faults c.args.wire.now) (g.W.Wire.faults c.args.wire.now) (omega arith);
      };
    }

pub returns-in-Denied-clause-idle : goal.returns-in-Denied-clause-idle
returns-in-Denied-clause-idle g c =
    let r = returns-in-Denied-clause-replied g c in
    let x = r.exchange in
    g.met.L.Ledger.stays_idle c.args.ledger.now c.begin_in.new.ledger x.calls r.exchanges.gains
    (exchange_settled (service_in g.L.Ledger.slots c.args.gate.now) (g.L.Ledger.made c.args.ledger.now) (c.args.wire.now ≡ c.args.wire.now) x r.exchanges.is_exchange) c.requires.idle

pub returns-in-Denied-clause-few : goal.returns-in-Denied-clause-few
returns-in-Denied-clause-few g c =
    let r = returns-in-Denied-clause-replied g c in
    let x = r.exchange in
    few_more (service_in g.L.Ledger.slots c.args.gate.now) (g.L.Ledger.made c.args.ledger.now) (g.L.Ledger.made c.begin_in.new.ledger) (c.args.wire.now ≡ c.args.wire.now) x r.exchanges.is_exchange
    (g.met.L.Ledger.counts c.args.ledger.now c.begin_in.new.ledger x.calls r.exchanges.gains)

has_status : (status : ℕ) → (status ≡ 200) ⊎ (status ≡ 500) → status_text status ≢ []
has_status status (inl is) same = let e : status_text 200 ≡ [] = subst (λ n. status_text n ≡ []) is same in cc e
has_status status (inr is) same = let e : status_text 500 ≡ [] = subst (λ n. status_text n ≡ []) is same in cc e

pub answered_reply-requires : goal.answered_reply-requires
answered_reply-requires g c =
    let given = subst (λ b. IfAnswered b IsGiven) c.in-Answered.is c.in_ok-begun.ensures.given in
    record { status = has_status c.in-Answered.answer.finished.status given.0; bound = given.1; charged = given.2 }

pub returns-in-Answered-clause-replied : goal.returns-in-Answered-clause-replied
returns-in-Answered-clause-replied g c =
    let book = c.args.ledger.now in
    let rules = rules_of c.args.gate.now in
    let answer = c.in-Answered.answer in
    let begun = subst (Begins rules (g.L.Ledger.made book) (g.L.Ledger.gains book c.begin_in.new.ledger) c.as_str.result.now c.deref.result.now c.args.moment) c.in-Answered.is c.in_ok-begun.ensures.begun in
    let full = subst (TellsFull (g.L.Ledger.full book)) c.in-Answered.is c.in_ok-begun.ensures.full in
    record {
      exchange = record { ask = c.args.ask.now; moment = c.args.moment; calls = calls_answered begun.0 (window_of rules c.args.moment) answer; outcome = None; dials = []; reply = c.answered_reply.result };
      asked = refl;
      at = refl;
      replied = refl;
      exchanges = record {
        is_exchange = inr (inr record {
          client = begun.0;
          answer = answer;
          is_answered = subst (λ key. IsAnswered rules key c.args.ask.now.body.items begun.0 (g.L.Ledger.made book) answer) c.as_str.ensures
              (subst (λ body. IsAnswered rules c.as_str.result.now body begun.0 (g.L.Ledger.made book) answer) c.deref.ensures.value begun.1);
          room = λ fills. full (g.met.L.Ledger.has_room book c.requires.idle fills);
          calls = refl;
          outcome = refl;
          dials = refl;
          untouched = refl;
          reply = c.answered_reply.ensures.reply;
        });
        gains = begun.2;
        logged = inl (logged_none (g.W.Wire.log c.args.wire.now));
        downs = rose_by_none (g.W.Wire.dial_faults c.args.wire.now) (g.W.Wire.dial_faults c.args.wire.now) (omega arith);
        failures = rose_by_none (g.W.Wire.faults c.args.wire.now) (g.W.Wire.faults c.args.wire.now) (omega arith);
      };
    }

pub returns-in-Answered-clause-idle : goal.returns-in-Answered-clause-idle
returns-in-Answered-clause-idle g c =
    let r = returns-in-Answered-clause-replied g c in
    let x = r.exchange in
    g.met.L.Ledger.stays_idle c.args.ledger.now c.begin_in.new.ledger x.calls r.exchanges.gains
    (exchange_settled (service_in g.L.Ledger.slots c.args.gate.now) (g.L.Ledger.made c.args.ledger.now) (c.args.wire.now ≡ c.args.wire.now) x r.exchanges.is_exchange) c.requires.idle

pub returns-in-Answered-clause-few : goal.returns-in-Answered-clause-few
returns-in-Answered-clause-few g c =
    let r = returns-in-Answered-clause-replied g c in
    let x = r.exchange in
    few_more (service_in g.L.Ledger.slots c.args.gate.now) (g.L.Ledger.made c.args.ledger.now) (g.L.Ledger.made c.begin_in.new.ledger) (c.args.wire.now ≡ c.args.wire.now) x r.exchanges.is_exchange
    (g.met.L.Ledger.counts c.args.ledger.now c.begin_in.new.ledger x.calls r.exchanges.gains)

-- ---- where the accounts are lost

pub returns-in_err-begun-clause-lost : goal.returns-in_err-begun-clause-lost
returns-in_err-begun-clause-lost g c =
    let book = c.args.ledger.now in
    let new = c.begin_in.new.ledger in
    let rules = rules_of c.args.gate.now in
    let wire = c.args.wire.now in
    let lost : LosesExchange (service_in g.L.Ledger.slots c.args.gate.now) (telling g.W.Wire) c.args.ask.now c.args.moment (g.L.Ledger.made book) (g.L.Ledger.gains book)
    (λ before. g.L.Ledger.loses before new) wire wire =
    inl (
      subst (λ key. LosesBegun rules key c.args.ask.now.body.items c.args.moment (g.L.Ledger.made book) (g.L.Ledger.gains book) (λ before. g.L.Ledger.loses before new)) c.as_str.ensures
          (subst (λ body. LosesBegun rules c.as_str.result.now body c.args.moment (g.L.Ledger.made book) (g.L.Ledger.gains book) (λ before. g.L.Ledger.loses before new)) c.deref.ensures.value c.in_err-begun.ensures.lost),
      refl,
    ) in
    on_err c.from_residual.result _ lost

pub returns-in_err-forward-in-Granted-clause-lost : goal.returns-in_err-forward-in-Granted-clause-lost
returns-in_err-forward-in-Granted-clause-lost g c =
    let book = c.args.ledger.now in
    let middle = c.begin_in.new.ledger in
    let new = c.forward.new.ledger in
    let rules = rules_of c.args.gate.now in
    let grant = c.in-Granted.grant in
    let s = service_in g.L.Ledger.slots c.args.gate.now in
    let tells = telling g.W.Wire in
    let begun = subst (Begins rules (g.L.Ledger.made book) (g.L.Ledger.gains book middle) c.as_str.result.now c.deref.result.now c.args.moment) c.in-Granted.is c.in_ok-begun.ensures.begun in
    let lost : LosesExchange s tells c.args.ask.now c.args.moment (g.L.Ledger.made book) (g.L.Ledger.gains book) (λ before. g.L.Ledger.loses before new) c.args.wire.now c.forward.new.wire =
    inr (
      begun.0,
      grant,
      middle,
      subst (λ key. IsGranted rules key c.args.ask.now.body.items begun.0 (g.L.Ledger.made book) grant) c.as_str.ensures
          (subst (λ body. IsGranted rules c.as_str.result.now body begun.0 (g.L.Ledger.made book) grant) c.deref.ensures.value begun.1),
      begun.2,
      subst (λ lines. LosesForwarded s tells grant lines (g.L.Ledger.loses middle new grant.ticket.client) c.args.wire.now c.forward.new.wire)
          c.deref-in-Granted.ensures.value c.in_err-forward-in-Granted.ensures.lost,
    ) in
    on_err c.from_residual-in_err-forward-in-Granted.result _ lost

pub returns-in_err-forward-in-Granted-clause-cause : goal.returns-in_err-forward-in-Granted-clause-cause
returns-in_err-forward-in-Granted-clause-cause g c =
    on_err c.from_residual-in_err-forward-in-Granted.result _
    (rose_since (g.L.Ledger.faults c.args.ledger.now) (g.L.Ledger.faults c.begin_in.new.ledger) (g.L.Ledger.faults c.forward.new.ledger) c.begin_in.ensures.count c.in_err-forward-in-Granted.ensures.cause)
