-- The key is the client's, and what its body comes to is promised.
use Rattle.std.proofs.Common.{inl, inr, refl, sym, subst}
use Rattle.local_introspection.specs.Counted.{answer_counted}
use Rattle.gateway_core.specs.Gates.{rules_of}
use Rattle.gateway_core.specs.Examined.{IsFound}
use Rattle.gateway_core.specs.Losses.{LosesBegun}
use Rattle.gateway_core.proofs.BegunRequests.{priced, begun_by, begun_with}
use Rattle.gateway_core.proofs.LostAccounts.{on_err}
use Rattle.gateway_core.proofs.beginning.begin_in.Goals as goal

pub returns-in_ok-reserve-in-Ok-Upstream-clause-begun : goal.returns-in_ok-reserve-in-Ok-Upstream-clause-begun
returns-in_ok-reserve-in-Ok-Upstream-clause-begun g c =
    let rules = rules_of c.args.gate.now in
    let reserved = c.in_ok-reserve-in-Ok-Upstream in
    let found = subst (IsFound rules c.args.body.now) c.in-Ok-Upstream.field-0-is c.in-Ok-Upstream.ensures.found in
    let begun = begun_by rules c.args.key.now c.args.body.now c.in-Some.client (g.L.Ledger.made c.args.ledger.now) c.in-Ok-Upstream.promise reserved.field-0 (sym c.in-Some.ensures.place) found reserved.ensures.reserved in
    (c.in-Some.client, begun, reserved.ensures.call)

pub returns-in_ok-pay-in-Ok-Local-clause-begun : goal.returns-in_ok-pay-in-Ok-Local-clause-begun
returns-in_ok-pay-in-Ok-Local-clause-begun g c =
    let rules = rules_of c.args.gate.now in
    let paid = c.in_ok-pay-in-Ok-Local in
    let found = subst (IsFound rules c.args.body.now) c.in-Ok-Local.field-0-is c.in-Ok-Local.ensures.found in
    let begun = begun_with rules c.args.key.now c.args.body.now c.in-Some.client (g.L.Ledger.made c.args.ledger.now) (answer_counted c.in-Ok-Local.counted) paid.field-0 (sym c.in-Some.ensures.place) found paid.ensures.paid in
    (c.in-Some.client, begun, paid.ensures.calls)

pub returns-in_err-reserve-in-Ok-Upstream-clause-lost : goal.returns-in_err-reserve-in-Ok-Upstream-clause-lost
returns-in_err-reserve-in-Ok-Upstream-clause-lost g c =
    let rules = rules_of c.args.gate.now in
    let book = c.args.ledger.now in
    let promise = c.in-Ok-Upstream.promise in
    let found = subst (IsFound rules c.args.body.now) c.in-Ok-Upstream.field-0-is c.in-Ok-Upstream.ensures.found in
    let lost : LosesBegun rules c.args.key.now c.args.body.now c.args.moment (g.L.Ledger.made book) (g.L.Ledger.gains book) (λ before. g.L.Ledger.loses before c.reserve.new.ledger) =
    record {
      client = c.in-Some.client;
      known = sym c.in-Some.ensures.place;
      bound = promise.bound;
      lost = inl (
        priced rules c.args.body.now promise found,
        record { before = book; unanswered = g.met.L.Ledger.gains_none book; lost = c.in_err-reserve-in-Ok-Upstream.ensures.lost },
      );
    } in
    on_err c.from_residual.result _ lost

pub returns-in_err-pay-in-Ok-Local-clause-lost : goal.returns-in_err-pay-in-Ok-Local-clause-lost
returns-in_err-pay-in-Ok-Local-clause-lost g c =
    let rules = rules_of c.args.gate.now in
    let book = c.args.ledger.now in
    let answer = answer_counted c.in-Ok-Local.counted in
    let lost : LosesBegun rules c.args.key.now c.args.body.now c.args.moment (g.L.Ledger.made book) (g.L.Ledger.gains book) (λ before. g.L.Ledger.loses before c.pay.new.ledger) =
    record {
      client = c.in-Some.client;
      known = sym c.in-Some.ensures.place;
      bound = answer.cost;
      lost = inr ((answer, subst (IsFound rules c.args.body.now) c.in-Ok-Local.field-0-is c.in-Ok-Local.ensures.found, refl), c.in_err-pay-in-Ok-Local.ensures.lost);
    } in
    on_err c.from_residual-in_err-pay-in-Ok-Local.result _ lost
