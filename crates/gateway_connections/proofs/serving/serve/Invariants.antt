use Rattle.std.proofs.Common.{◌≡◌, ◌-◌, ◌+◌, ◌*◌, ◌≤◌, ℕ, List, Some}
use Rattle.gateway_core.specs.Messages.{message_body, no_memory_text}
use Rattle.gateway_connections.specs.Exchanges.{service_in}
use Rattle.gateway_connections.specs.Serving.{GoesOnAfter}
use Rattle.gateway_connections.proofs.serving.serve.Given as goal

abbrev pub invariant-turns : goal.invariant-turns
invariant-turns g l =
    (kept : List ℕ) × (l.front ≡ Some kept)
    × GoesOnAfter (service_in g.L.Ledger.slots l.gate) (g.L.Ledger.made l.initial.ledger) (g.L.Ledger.gains l.initial.ledger l.ledger) l.number kept
    record { left = g.S.Source.left l.initial.conn.source; written = g.K.Sink.written l.initial.conn.sink; readings = g.C.Clock.readings l.initial.conn.clock; log = g.W.Wire.log l.initial.conn.wire; read_faults = g.S.Source.faults l.initial.conn.source; write_faults = g.K.Sink.faults l.initial.conn.sink; dial_faults = g.W.Wire.dial_faults l.initial.conn.wire; transfer_faults = g.W.Wire.faults l.initial.conn.wire }
    record { left = g.S.Source.left l.conn.source; written = g.K.Sink.written l.conn.sink; readings = g.C.Clock.readings l.conn.clock; log = g.W.Wire.log l.conn.wire; read_faults = g.S.Source.faults l.conn.source; write_faults = g.K.Sink.faults l.conn.sink; dial_faults = g.W.Wire.dial_faults l.conn.wire; transfer_faults = g.W.Wire.faults l.conn.wire }
    × g.L.Ledger.belongs l.ledger l.gate × g.L.Ledger.idle l.ledger × (g.L.Ledger.made l.ledger ≤ g.L.Ledger.made l.initial.ledger + 2 * l.number)
    × (l.spare.items ≡ message_body no_memory_text)
    × (g.S.Source.faults l.conn.source ≡ g.S.Source.faults l.initial.conn.source)
    × (g.K.Sink.faults l.conn.sink ≡ g.K.Sink.faults l.initial.conn.sink)
    × (g.L.Ledger.faults l.initial.ledger ≤ g.L.Ledger.faults l.ledger)

abbrev pub decreases-turns : goal.decreases-turns
decreases-turns g l = 1000 - l.number
