use Rattle.std.proofs.Common.{◌≡◌, ◌++◌, ◌∷◌, [], refl, sym, subst, List, ℕ}
use Rattle.http_front.specs.Asks.{IsAsk}
use Rattle.http_front.specs.declared.front.Ask.{Ask}
use Rattle.gateway_connections.specs.declared.ending.ConnectionEnd.TheVariants as ending
use Rattle.gateway_connections.specs.Exchanges.{service_in, telling, LosesExchange}
use Rattle.gateway_connections.specs.Connections.{at_fault}
use Rattle.gateway_connections.specs.Serving.{LosesTurn}
use Rattle.doors.specs.Visits.{Told}
use Rattle.gateway_core.proofs.LostAccounts.{on_err}
use Rattle.gateway_connections.proofs.Growing.{makes_still}
use Rattle.gateway_connections.proofs.OneExchange.{some_then, exchange_anyhow, made_one, turned_by, answers_exchange, unless_anyway, refused_read, no_read_fault}
use Rattle.gateway_connections.proofs.turn.turn.Goals as goal

pub returns-in-Err-clause-turns : goal.returns-in-Err-clause-turns
returns-in-Err-clause-turns g c =
    some_then c.args.front.now _ _ (λ kept t.
    let r = c.refuse.ensures.refuses in
    record {
      bytes = t.bytes;
      ended = t.ended;
      took = t.took;
      at_end = t.at_end;
      exchanges = [];
      makes = makes_still (g.L.Ledger.gains c.args.ledger.now c.args.ledger.now) _ _ (g.met.L.Ledger.gains_none c.args.ledger.now) refl refl refl refl;
      turned = (at_fault c.in-Err.fault r.0, refl, (t.says.1, r.1), r.2);
    }) c.in-Err.ensures.exact

pub returns-clause-turns : goal.returns-clause-turns
returns-clause-turns g c =
    some_then c.args.front.now _ _ (λ kept t.
    let r = c.in_ok-reply.ensures.replied in
    let x = r.exchange in
    record {
      bytes = t.bytes;
      ended = t.ended;
      took = t.took;
      at_end = t.at_end;
      exchanges = x ∷ [];
      makes = made_one (g.L.Ledger.gains c.args.ledger.now c.exchange.new.ledger) _ _ x c.seconds-moment.result r.exchanges.gains r.at c.seconds-moment.ensures.tick r.exchanges.logged r.exchanges.downs r.exchanges.failures;
      turned = turned_by (service_in g.L.Ledger.slots c.args.gate.now) c.args.number (g.L.Ledger.made c.args.ledger.now) (kept ++ t.bytes) t.says.0 t.ended c.next.new.self x
          (g.K.Sink.written c.args.conn.now.sink) (g.K.Sink.written c.answer.new.to) c.answer.result
          (subst (λ (n : List (List ℕ)). IsAsk n (kept ++ t.bytes) x.ask t.says.0) c.passed.ensures (subst (λ (a : Ask). IsAsk c.passed.result.now (kept ++ t.bytes) a t.says.0) (sym r.asked) t.says.2)) t.says.1
          (exchange_anyhow (service_in g.L.Ledger.slots c.args.gate.now) (g.L.Ledger.made c.args.ledger.now) (c.exchange.new.wire ≡ c.args.conn.now.wire) x r.exchanges.is_exchange)
          (answers_exchange x c.in-Ok.ask c.in_ok-reply.reply c.args.number (g.K.Sink.written c.args.conn.now.sink) (g.K.Sink.written c.answer.new.to) c.answer.result r.asked r.replied c.answer.ensures.answers);
    }) c.in-Ok.ensures.exact

pub returns-in-Err-clause-read_still : goal.returns-in-Err-clause-read_still
returns-in-Err-clause-read_still g c =
    λ not_read. c.in-Err.ensures.still (λ e. not_read (refused_read c.in-Err.fault c.args.number (g.K.Sink.written c.args.conn.now.sink) (g.K.Sink.written c.refuse.new.to) c.refuse.result.replies c.refuse.result.end c.refuse.ensures.refuses (cc e)))

pub returns-clause-read_still : goal.returns-clause-read_still
returns-clause-read_still g c = unless_anyway ending.ReadFault c.answer.result _ (c.in-Ok.ensures.still (λ e. cc e))

pub returns-clause-read_fault : goal.returns-clause-read_fault
returns-clause-read_fault g c =
    no_read_fault c.in_ok-reply.reply _ c.args.number (g.K.Sink.written c.args.conn.now.sink) (g.K.Sink.written c.answer.new.to) c.answer.result _ c.answer.ensures.answers

pub returns-in_err-reply-clause-lost : goal.returns-in_err-reply-clause-lost
returns-in_err-reply-clause-lost g c =
    let book = c.args.ledger.now in
    let s = service_in g.L.Ledger.slots c.args.gate.now in
    let given : Told = record { left = g.S.Source.left c.args.conn.now.source; written = g.K.Sink.written c.args.conn.now.sink; readings = g.C.Clock.readings c.args.conn.now.clock; log = g.W.Wire.log c.args.conn.now.wire; read_faults = g.S.Source.faults c.args.conn.now.source; write_faults = g.K.Sink.faults c.args.conn.now.sink; dial_faults = g.W.Wire.dial_faults c.args.conn.now.wire; transfer_faults = g.W.Wire.faults c.args.conn.now.wire } in
    let back : Told = record { left = g.S.Source.left c.next.new.from; written = g.K.Sink.written c.args.conn.now.sink; readings = g.C.Clock.readings c.seconds-moment.new.self; log = g.W.Wire.log c.exchange.new.wire; read_faults = g.S.Source.faults c.next.new.from; write_faults = g.K.Sink.faults c.args.conn.now.sink; dial_faults = g.W.Wire.dial_faults c.exchange.new.wire; transfer_faults = g.W.Wire.faults c.exchange.new.wire } in
    on_err c.from_residual.result _
    (some_then c.args.front.now _ (λ kept. LosesTurn s kept (λ ask moment. LosesExchange s (telling g.W.Wire) ask moment (g.L.Ledger.made book) (g.L.Ledger.gains book)
    (λ before. g.L.Ledger.loses before c.exchange.new.ledger) c.args.conn.now.wire c.exchange.new.wire) given back) (λ kept t. record {
      bytes = t.bytes;
      took = t.took;
      ask = c.in-Ok.ask;
      rest = t.says.0;
      is_ask = subst (λ (n : List (List ℕ)). IsAsk n (kept ++ t.bytes) c.in-Ok.ask t.says.0) c.passed.ensures t.says.2;
      moment = c.seconds-moment.result;
      tick = c.seconds-moment.ensures.tick;
      still = refl;
      lost = c.in_err-reply.ensures.lost;
    }) c.in-Ok.ensures.exact)
