-- So far the first `done` bytes were sent.
use Rattle.std.proofs.Common.{◌≡◌, ◌≤◌, ◌-◌, length, take, true}
use Rattle.outside.specs.Dials.{LastBecomes, sends}
use Rattle.upstream_link.proofs.sending.send.Given as goal

abbrev pub invariant-pieces : goal.invariant-pieces
invariant-pieces g l =
    (g.W.Wire.dialled l.wire ≡ true) × (g.W.Wire.faults l.wire ≡ g.W.Wire.faults l.initial.wire) × (g.W.Wire.dial_faults l.wire ≡ g.W.Wire.dial_faults l.initial.wire)
    × (l.done ≤ length l.piece) × LastBecomes (sends (take l.done l.piece)) (g.W.Wire.log l.initial.wire) (g.W.Wire.log l.wire)

abbrev pub decreases-pieces : goal.decreases-pieces
decreases-pieces g l = length l.piece - l.done
