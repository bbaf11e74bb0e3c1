-- What was gained in the journal holds of every history that it follows.
use Rattle.std.proofs.Common.{refl, arith}
use Rattle.doors.specs.Visits.{Told}
use Rattle.gateway_workers.specs.PassedOn.{service_in, telling}
use Rattle.gateway_journal.specs.declared.kept.Kept.{Kept}
use Rattle.gateway_journal.specs.Kept.{kept_slots, HasGained, IsLostIn}
use Rattle.gateway_journal.proofs.ServedCalls.{kept_serves, kept_until}
use Rattle.gateway_journal.proofs.ServedEnds as ends
use Rattle.gateway_journal.proofs.serving.serve_on.Goals as goal

pub serve_in-requires-clause-made : goal.serve_in-requires-clause-made
serve_in-requires-clause-made g c = omega (arith, c.requires.kept.sound.room)

pub returns-in-Ok-clause-serves : goal.returns-in-Ok-clause-serves
returns-in-Ok-clause-serves g c =
    let given : Told = record { left = g.S.Source.left c.args.conn.now.source; written = g.K.Sink.written c.args.conn.now.sink; readings = g.C.Clock.readings c.args.conn.now.clock; log = g.W.Wire.log c.args.conn.now.wire; read_faults = g.S.Source.faults c.args.conn.now.source; write_faults = g.K.Sink.faults c.args.conn.now.sink; dial_faults = g.W.Wire.dial_faults c.args.conn.now.wire; transfer_faults = g.W.Wire.faults c.args.conn.now.wire } in
    let back : Told = record { left = g.S.Source.left c.serve_in.new.conn.source; written = g.K.Sink.written c.serve_in.new.conn.sink; readings = g.C.Clock.readings c.serve_in.new.conn.clock; log = g.W.Wire.log c.serve_in.new.conn.wire; read_faults = g.S.Source.faults c.serve_in.new.conn.source; write_faults = g.K.Sink.faults c.serve_in.new.conn.sink; dial_faults = g.W.Wire.dial_faults c.serve_in.new.conn.wire; transfer_faults = g.W.Wire.faults c.serve_in.new.conn.wire } in
    kept_serves g.D.Disk.reads g.D.Disk.image g.D.Disk.faults (service_in kept_slots c.args.gate.now) refl c.args.kept.now.journal c.serve_in.new.ledger.journal c.requires.idle given back c.in-Ok.served c.in-Ok.ensures.serves

pub returns-in-Ok-clause-not_lost : goal.returns-in-Ok-clause-not_lost
returns-in-Ok-clause-not_lost g c =
    let given : Told = record { left = g.S.Source.left c.args.conn.now.source; written = g.K.Sink.written c.args.conn.now.sink; readings = g.C.Clock.readings c.args.conn.now.clock; log = g.W.Wire.log c.args.conn.now.wire; read_faults = g.S.Source.faults c.args.conn.now.source; write_faults = g.K.Sink.faults c.args.conn.now.sink; dial_faults = g.W.Wire.dial_faults c.args.conn.now.wire; transfer_faults = g.W.Wire.faults c.args.conn.now.wire } in
    let back : Told = record { left = g.S.Source.left c.serve_in.new.conn.source; written = g.K.Sink.written c.serve_in.new.conn.sink; readings = g.C.Clock.readings c.serve_in.new.conn.clock; log = g.W.Wire.log c.serve_in.new.conn.wire; read_faults = g.S.Source.faults c.serve_in.new.conn.source; write_faults = g.K.Sink.faults c.serve_in.new.conn.sink; dial_faults = g.W.Wire.dial_faults c.serve_in.new.conn.wire; transfer_faults = g.W.Wire.faults c.serve_in.new.conn.wire } in
    ends.not_lost (service_in kept_slots c.args.gate.now) c.args.kept.now.journal.used
    (HasGained g.D.Disk.reads g.D.Disk.image g.D.Disk.faults c.args.kept.now.journal c.serve_in.new.ledger.journal) given back c.in-Ok.served c.in-Ok.ensures.serves

pub returns-in-Err-clause-lost : goal.returns-in-Err-clause-lost
returns-in-Err-clause-lost g c =
    let given : Told = record { left = g.S.Source.left c.args.conn.now.source; written = g.K.Sink.written c.args.conn.now.sink; readings = g.C.Clock.readings c.args.conn.now.clock; log = g.W.Wire.log c.args.conn.now.wire; read_faults = g.S.Source.faults c.args.conn.now.source; write_faults = g.K.Sink.faults c.args.conn.now.sink; dial_faults = g.W.Wire.dial_faults c.args.conn.now.wire; transfer_faults = g.W.Wire.faults c.args.conn.now.wire } in
    let back : Told = record { left = g.S.Source.left c.serve_in.new.conn.source; written = g.K.Sink.written c.serve_in.new.conn.sink; readings = g.C.Clock.readings c.serve_in.new.conn.clock; log = g.W.Wire.log c.serve_in.new.conn.wire; read_faults = g.S.Source.faults c.serve_in.new.conn.source; write_faults = g.K.Sink.faults c.serve_in.new.conn.sink; dial_faults = g.W.Wire.dial_faults c.serve_in.new.conn.wire; transfer_faults = g.W.Wire.faults c.serve_in.new.conn.wire } in
    kept_until g.D.Disk.reads g.D.Disk.image g.D.Disk.faults (λ (k : Kept _). k.journal) (service_in kept_slots c.args.gate.now) (telling g.W.Wire)
    (λ j. IsLostIn g.D.Disk.reads g.D.Disk.image g.D.Disk.moment g.D.Disk.image_since j c.serve_in.new.ledger.journal.disk) c.serve_in.new.conn.wire refl c.args.kept.now c.requires.idle given back c.in-Err.replies c.in-Err.ensures.lost
