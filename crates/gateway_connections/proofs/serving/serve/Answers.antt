use Rattle.std.proofs.Common.{◌≡◌, ◌∙◌, [], refl, subst, arith, Some, None}
use Rattle.doors.specs.Visits.{Told}
use Rattle.gateway_connections.specs.Exchanges.{service_in, telling, LosesExchange}
use Rattle.gateway_connections.specs.declared.ending.ConnectionEnd.TheVariants as ending
use Rattle.gateway_connections.specs.Connections.{UnlessEndsBy}
use Rattle.gateway_connections.specs.Serving.{Turns, TurnsFrom, LosesTurn}
use Rattle.gateway_connections.proofs.Going.{goes_on_first, goes_on_more, goes_to_end}
use Rattle.gateway_connections.proofs.OneExchange.{at_some}
use Rattle.gateway_core.proofs.LostAccounts.{rose_since}
use Rattle.gateway_connections.proofs.serving.serve.Goals as goal

pub turns-init : goal.turns-init
turns-init g c =
    let first : Told = record { left = g.S.Source.left c.args.conn.now.source; written = g.K.Sink.written c.args.conn.now.sink; readings = g.C.Clock.readings c.args.conn.now.clock; log = g.W.Wire.log c.args.conn.now.wire; read_faults = g.S.Source.faults c.args.conn.now.source; write_faults = g.K.Sink.faults c.args.conn.now.sink; dial_faults = g.W.Wire.dial_faults c.args.conn.now.wire; transfer_faults = g.W.Wire.faults c.args.conn.now.wire } in
    let book = c.args.ledger.now in
    ([], c.requires.front, goes_on_first (service_in g.L.Ledger.slots c.args.gate.now) (g.L.Ledger.made book) (g.L.Ledger.gains book book) first (g.met.L.Ledger.gains_none book), c.requires.belong, c.requires.idle, omega arith, c.requires.spare, omega arith, omega arith, omega arith)

pub returns-in-Some-clause-serves : goal.returns-in-Some-clause-serves
returns-in-Some-clause-serves g c =
    let first : Told = record { left = g.S.Source.left c.args.conn.now.source; written = g.K.Sink.written c.args.conn.now.sink; readings = g.C.Clock.readings c.args.conn.now.clock; log = g.W.Wire.log c.args.conn.now.wire; read_faults = g.S.Source.faults c.args.conn.now.source; write_faults = g.K.Sink.faults c.args.conn.now.sink; dial_faults = g.W.Wire.dial_faults c.args.conn.now.wire; transfer_faults = g.W.Wire.faults c.args.conn.now.wire } in
    let before : Told = record { left = g.S.Source.left c.turns.conn.source; written = g.K.Sink.written c.turns.conn.sink; readings = g.C.Clock.readings c.turns.conn.clock; log = g.W.Wire.log c.turns.conn.wire; read_faults = g.S.Source.faults c.turns.conn.source; write_faults = g.K.Sink.faults c.turns.conn.sink; dial_faults = g.W.Wire.dial_faults c.turns.conn.wire; transfer_faults = g.W.Wire.faults c.turns.conn.wire } in
    let now : Told = record { left = g.S.Source.left c.turn.new.conn.source; written = g.K.Sink.written c.turn.new.conn.sink; readings = g.C.Clock.readings c.turn.new.conn.clock; log = g.W.Wire.log c.turn.new.conn.wire; read_faults = g.S.Source.faults c.turn.new.conn.source; write_faults = g.K.Sink.faults c.turn.new.conn.sink; dial_faults = g.W.Wire.dial_faults c.turn.new.conn.wire; transfer_faults = g.W.Wire.faults c.turn.new.conn.wire } in
    let s = service_in g.L.Ledger.slots c.args.gate.now in
    let i = c.turns.invariant in
    let book = c.args.ledger.now in
    let so_far = c.turns.ledger in
    let new = c.turn.new.ledger in
    let t = at_some c.turns.front i.0 (λ kept. Turns s (g.L.Ledger.made so_far) (g.L.Ledger.gains so_far new) c.turns.number kept c.turn.new.front before now (Some c.in-Some.served)) i.1 (subst (TurnsFrom s (g.L.Ledger.made so_far) (g.L.Ledger.gains so_far new) c.turns.number c.turns.front c.turn.new.front before now) c.in-Some.is c.in-Ok.ensures.turns) in
    goes_to_end s (g.L.Ledger.made book) (g.L.Ledger.made so_far) (g.L.Ledger.gains book so_far) (g.L.Ledger.gains so_far new) (g.L.Ledger.gains book new)
    (λ these those. g.met.L.Ledger.gains_then book so_far new these those) (λ calls. g.met.L.Ledger.counts book so_far calls) c.turns.number i.0 c.turn.new.front first before now c.in-Some.served i.2 t

pub turns-preserved : goal.turns-preserved
turns-preserved g c =
    let first : Told = record { left = g.S.Source.left c.args.conn.now.source; written = g.K.Sink.written c.args.conn.now.sink; readings = g.C.Clock.readings c.args.conn.now.clock; log = g.W.Wire.log c.args.conn.now.wire; read_faults = g.S.Source.faults c.args.conn.now.source; write_faults = g.K.Sink.faults c.args.conn.now.sink; dial_faults = g.W.Wire.dial_faults c.args.conn.now.wire; transfer_faults = g.W.Wire.faults c.args.conn.now.wire } in
    let before : Told = record { left = g.S.Source.left c.turns.conn.source; written = g.K.Sink.written c.turns.conn.sink; readings = g.C.Clock.readings c.turns.conn.clock; log = g.W.Wire.log c.turns.conn.wire; read_faults = g.S.Source.faults c.turns.conn.source; write_faults = g.K.Sink.faults c.turns.conn.sink; dial_faults = g.W.Wire.dial_faults c.turns.conn.wire; transfer_faults = g.W.Wire.faults c.turns.conn.wire } in
    let now : Told = record { left = g.S.Source.left c.turn.new.conn.source; written = g.K.Sink.written c.turn.new.conn.sink; readings = g.C.Clock.readings c.turn.new.conn.clock; log = g.W.Wire.log c.turn.new.conn.wire; read_faults = g.S.Source.faults c.turn.new.conn.source; write_faults = g.K.Sink.faults c.turn.new.conn.sink; dial_faults = g.W.Wire.dial_faults c.turn.new.conn.wire; transfer_faults = g.W.Wire.faults c.turn.new.conn.wire } in
    let s = service_in g.L.Ledger.slots c.args.gate.now in
    let i = c.turns.invariant in
    let book = c.args.ledger.now in
    let so_far = c.turns.ledger in
    let new = c.turn.new.ledger in
    let t = at_some c.turns.front i.0 (λ kept. Turns s (g.L.Ledger.made so_far) (g.L.Ledger.gains so_far new) c.turns.number kept c.turn.new.front before now None) i.1 (subst (TurnsFrom s (g.L.Ledger.made so_far) (g.L.Ledger.gains so_far new) c.turns.number c.turns.front c.turn.new.front before now) c.in-None.is c.in-Ok.ensures.turns) in (
      t.turned.1,
      t.turned.4,
      goes_on_more s (g.L.Ledger.made book) (g.L.Ledger.made so_far) (g.L.Ledger.gains book so_far) (g.L.Ledger.gains so_far new) (g.L.Ledger.gains book new)
          (λ these those. g.met.L.Ledger.gains_then book so_far new these those) (λ calls. g.met.L.Ledger.counts book so_far calls) c.turns.number i.0 c.turn.new.front first before now i.2 t,
      c.in-Ok.ensures.belong,
      c.in-Ok.ensures.idle,
      omega (arith, i.5, c.in-Ok.ensures.few),
      c.turn.ensures.spare,
      subst (λ r. UnlessEndsBy ending.ReadFault r (g.S.Source.faults c.turn.new.conn.source ≡ g.S.Source.faults c.turns.conn.source)) c.in-None.is c.in-Ok.ensures.read_still ∙ i.7,
      subst (λ r. UnlessEndsBy ending.WriteFault r (g.K.Sink.faults c.turn.new.conn.sink ≡ g.K.Sink.faults c.turns.conn.sink)) c.in-None.is c.in-Ok.ensures.write_still ∙ i.8,
      omega (arith, i.9, c.turn.ensures.count),
    )

pub returns-in-Err-clause-lost : goal.returns-in-Err-clause-lost
returns-in-Err-clause-lost g c =
    let before : Told = record { left = g.S.Source.left c.turns.conn.source; written = g.K.Sink.written c.turns.conn.sink; readings = g.C.Clock.readings c.turns.conn.clock; log = g.W.Wire.log c.turns.conn.wire; read_faults = g.S.Source.faults c.turns.conn.source; write_faults = g.K.Sink.faults c.turns.conn.sink; dial_faults = g.W.Wire.dial_faults c.turns.conn.wire; transfer_faults = g.W.Wire.faults c.turns.conn.wire } in
    let now : Told = record { left = g.S.Source.left c.turn.new.conn.source; written = g.K.Sink.written c.turn.new.conn.sink; readings = g.C.Clock.readings c.turn.new.conn.clock; log = g.W.Wire.log c.turn.new.conn.wire; read_faults = g.S.Source.faults c.turn.new.conn.source; write_faults = g.K.Sink.faults c.turn.new.conn.sink; dial_faults = g.W.Wire.dial_faults c.turn.new.conn.wire; transfer_faults = g.W.Wire.faults c.turn.new.conn.wire } in
    let s = service_in g.L.Ledger.slots c.args.gate.now in
    let i = c.turns.invariant in
    let so_far = c.turns.ledger in
    let new = c.turn.new.ledger in
    record {
      so_far = so_far;
      kept = i.0;
      between = before;
      wire = c.turns.conn.wire;
      logs = refl;
      goes_on = i.2;
      lost = at_some c.turns.front i.0 (λ kept. LosesTurn s kept (λ ask moment. LosesExchange s (telling g.W.Wire) ask moment (g.L.Ledger.made so_far) (g.L.Ledger.gains so_far)
          (λ b. g.L.Ledger.loses b new) c.turns.conn.wire c.turn.new.conn.wire) before now) i.1 c.in-Err.ensures.lost;
    }

pub returns-in-Err-clause-cause : goal.returns-in-Err-clause-cause
returns-in-Err-clause-cause g c =
    rose_since (g.L.Ledger.faults c.args.ledger.now) (g.L.Ledger.faults c.turns.ledger) (g.L.Ledger.faults c.turn.new.ledger) c.turns.invariant.9 c.in-Err.ensures.cause
