-- The wire stays dialled.
use Rattle.std.proofs.Common.{◌≡◌, true}
use Rattle.tcp_adapters.proofs.wires.ends_with.Given as goal

abbrev pub invariant-reads : goal.invariant-reads
invariant-reads g l = g.W.Wire.dialled l.wire ≡ true
