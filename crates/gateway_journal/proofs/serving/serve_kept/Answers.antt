-- The disk that is handed back is that of the journal in whose call it failed.
use Rattle.std.proofs.Common.{sym, subst}
use Rattle.doors.specs.Visits.{Told}
use Rattle.gateway_workers.specs.PassedOn.{telling}
use Rattle.gateway_journal.specs.Kept.{IsLostIn}
use Rattle.gateway_journal.specs.Served.{LosesKept}
use Rattle.gateway_journal.proofs.serving.serve_kept.Goals as goal

pub returns-in-Err-clause-lost : goal.returns-in-Err-clause-lost
returns-in-Err-clause-lost g c =
    let given : Told = record { left = g.S.Source.left c.args.conn.now.source; written = g.K.Sink.written c.args.conn.now.sink; readings = g.C.Clock.readings c.args.conn.now.clock; log = g.W.Wire.log c.args.conn.now.wire; read_faults = g.S.Source.faults c.args.conn.now.source; write_faults = g.K.Sink.faults c.args.conn.now.sink; dial_faults = g.W.Wire.dial_faults c.args.conn.now.wire; transfer_faults = g.W.Wire.faults c.args.conn.now.wire } in
    let back : Told = record { left = g.S.Source.left c.serve_on.new.conn.source; written = g.K.Sink.written c.serve_on.new.conn.sink; readings = g.C.Clock.readings c.serve_on.new.conn.clock; log = g.W.Wire.log c.serve_on.new.conn.wire; read_faults = g.S.Source.faults c.serve_on.new.conn.source; write_faults = g.K.Sink.faults c.serve_on.new.conn.sink; dial_faults = g.W.Wire.dial_faults c.serve_on.new.conn.wire; transfer_faults = g.W.Wire.faults c.serve_on.new.conn.wire } in
    subst (λ (disk : _). LosesKept g.D.Disk.reads g.D.Disk.image g.D.Disk.faults (λ j. IsLostIn g.D.Disk.reads g.D.Disk.image g.D.Disk.moment g.D.Disk.image_since j disk) (telling g.W.Wire)
    c.args.gate.now c.args.journal given back c.serve_on.new.conn.wire c.in-Err.replies)
    (sym c.into_disk.ensures) c.in-Err.ensures.lost
