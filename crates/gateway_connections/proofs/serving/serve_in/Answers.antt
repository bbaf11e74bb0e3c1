use Rattle.std.proofs.Common.{refl}
use Rattle.doors.specs.Visits.{Told}
use Rattle.gateway_connections.specs.Exchanges.{service_in}
use Rattle.gateway_connections.proofs.Going.{never_begun}
use Rattle.gateway_connections.proofs.serving.serve_in.Goals as goal

pub returns-in-Err-clause-serves : goal.returns-in-Err-clause-serves
returns-in-Err-clause-serves g c =
    let first : Told = record { left = g.S.Source.left c.args.conn.now.source; written = g.K.Sink.written c.args.conn.now.sink; readings = g.C.Clock.readings c.args.conn.now.clock; log = g.W.Wire.log c.args.conn.now.wire; read_faults = g.S.Source.faults c.args.conn.now.source; write_faults = g.K.Sink.faults c.args.conn.now.sink; dial_faults = g.W.Wire.dial_faults c.args.conn.now.wire; transfer_faults = g.W.Wire.faults c.args.conn.now.wire } in
    never_begun (service_in g.L.Ledger.slots c.args.gate.now) (g.L.Ledger.made c.args.ledger.now) (g.L.Ledger.gains c.args.ledger.now c.args.ledger.now) first _ (g.met.L.Ledger.gains_none c.args.ledger.now) refl refl
