-- Both calls are the client's.
use Rattle.std.proofs.Common.{◌/◌, ◌∷◌, [], inl, inr, ap, subst}
use Rattle.account_core.specs.Machine.{reservation, granted}
use Rattle.account_shared.specs.Gains.{client_call}
use Rattle.local_introspection.specs.Counted.{answer_counted}
use Rattle.gateway_core.specs.Rules.{window_of}
use Rattle.gateway_core.specs.Gates.{rules_of}
use Rattle.gateway_core.specs.Losses.{LosesCalls}
use Rattle.gateway_core.specs.Reservations.{IsReservedFor, calls_reserved}
use Rattle.gateway_core.proofs.PaidAnswers.{paid, told_paid, is_given}
use Rattle.gateway_core.proofs.LostAccounts.{on_err, rose_since, lost_settling}
use Rattle.gateway_core.proofs.beginning.pay.Goals as goal

pub returns-in-Granted-clause-calls : goal.returns-in-Granted-clause-calls
returns-in-Granted-clause-calls g c =
    let book = c.args.ledger.now in
    let middle = c.reserve.new.self in
    let new = c.settle.new.self in
    let cost = c.args.counted.cost in
    let asked = c.args.moment / c.from.result in
    let is = subst (IsReservedFor c.args.client (g.L.Ledger.made book) cost) c.in-Granted.is c.in_ok-reserved.ensures.reserved in
    let one = subst (λ reserved. g.L.Ledger.gains book middle (calls_reserved c.args.client asked cost reserved)) c.in-Granted.is c.in_ok-reserved.ensures.call in
    let ticket = c.in-Granted.ticket in
    let window = window_of (rules_of c.args.gate.now) c.args.moment in
    told_paid (g.L.Ledger.gains book new) c.args.client window cost (record { finished = c.written-finished.result; window = ticket.window; seq = ticket.seq }) c.written-finished.ensures.bound c.written-finished.ensures.charged
    (paid (g.L.Ledger.gains book middle) (g.L.Ledger.gains middle new) (g.L.Ledger.gains book new) (λ these those. g.met.L.Ledger.gains_then book middle new these those)
    c.args.client asked window cost ticket is.0 is.2 (ap (λ s. c.args.moment / s) c.from.ensures) one c.in_ok-settle-in-Granted.ensures.call)

pub returns-in-Granted-clause-given : goal.returns-in-Granted-clause-given
returns-in-Granted-clause-given g c =
    is_given (answer_counted c.args.counted) c.args.counted.cost (record { finished = c.written-finished.result; window = c.in-Granted.ticket.window; seq = c.in-Granted.ticket.seq })
    c.requires.capped c.written-finished.ensures.written c.written-finished.ensures.bound c.written-finished.ensures.charged

pub returns-in_err-reserved-clause-lost : goal.returns-in_err-reserved-clause-lost
returns-in_err-reserved-clause-lost g c =
    let book = c.args.ledger.now in
    let new = c.reserve.new.self in
    let cost = c.args.counted.cost in
    let lost : LosesCalls c.args.client (window_of (rules_of c.args.gate.now) c.args.moment) cost (g.L.Ledger.made book) (g.L.Ledger.gains book) (λ before. g.L.Ledger.loses before new) =
    inl record {
      before = book;
      unanswered = g.met.L.Ledger.gains_none book;
      lost = subst (λ w. g.L.Ledger.loses book new c.args.client (reservation w cost)) (ap (λ s. c.args.moment / s) c.from.ensures) c.in_err-reserved.ensures.lost;
    } in
    on_err c.from_residual.result _ lost

pub returns-in_err-settle-in-Granted-clause-lost : goal.returns-in_err-settle-in-Granted-clause-lost
returns-in_err-settle-in-Granted-clause-lost g c =
    let book = c.args.ledger.now in
    let middle = c.reserve.new.self in
    let new = c.settle.new.self in
    let cost = c.args.counted.cost in
    let ticket = c.in-Granted.ticket in
    let asked = c.args.moment / c.from.result in
    let is = subst (IsReservedFor c.args.client (g.L.Ledger.made book) cost) c.in-Granted.is c.in_ok-reserved.ensures.reserved in
    let one = subst (λ reserved. g.L.Ledger.gains book middle (calls_reserved c.args.client asked cost reserved)) c.in-Granted.is c.in_ok-reserved.ensures.call in
    let lost : LosesCalls c.args.client (window_of (rules_of c.args.gate.now) c.args.moment) cost (g.L.Ledger.made book) (g.L.Ledger.gains book) (λ before. g.L.Ledger.loses before new) =
    inr record {
      before = middle;
      at = ticket.window;
      answered = subst (λ w. g.L.Ledger.gains book middle (client_call c.args.client (reservation w cost) (granted ticket.window) ∷ [])) (ap (λ s. c.args.moment / s) c.from.ensures) one;
      lost = lost_settling (g.L.Ledger.loses middle new) c.args.client (g.L.Ledger.made book) cost ticket is.0 is.1 is.2 c.in_err-settle-in-Granted.ensures.lost;
    } in
    on_err c.from_residual-in_err-settle-in-Granted.result _ lost

pub returns-in_err-settle-in-Granted-clause-cause : goal.returns-in_err-settle-in-Granted-clause-cause
returns-in_err-settle-in-Granted-clause-cause g c =
    on_err c.from_residual-in_err-settle-in-Granted.result _
    (rose_since (g.L.Ledger.faults c.args.ledger.now) (g.L.Ledger.faults c.reserve.new.self) (g.L.Ledger.faults c.settle.new.self) c.reserve.ensures.count c.in_err-settle-in-Granted.ensures.cause)
