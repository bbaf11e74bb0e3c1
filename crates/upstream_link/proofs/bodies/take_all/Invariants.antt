use Rattle.std.proofs.Common.{◌≡◌, ◌-◌, ◌++◌, ℕ, List, length, true, false}
use Rattle.upstream_link.specs.Received.{Brings}
use Rattle.upstream_link.proofs.bodies.take_all.Given as goal

abbrev pub invariant-pieces : goal.invariant-pieces
invariant-pieces g l =
    (g.W.Wire.dialled l.wire ≡ true) × (g.W.Wire.faults l.wire ≡ g.W.Wire.faults l.initial.wire) × (g.W.Wire.dial_faults l.wire ≡ g.W.Wire.dial_faults l.initial.wire)
    × ((t : List ℕ) × Brings (g.W.Wire.coming l.initial.wire, g.W.Wire.log l.initial.wire) t false false (g.W.Wire.coming l.wire, g.W.Wire.log l.wire) × (l.kept ≡ l.initial.kept ++ t))

abbrev pub decreases-pieces : goal.decreases-pieces
decreases-pieces g l = 4194305 - length l.kept
