use Rattle.std.proofs.Common.{◌≡◌, ◌≤◌, ◌-◌, ◌++◌, ℕ, List, length, true, false}
use Rattle.upstream_link.specs.Received.{Brings}
use Rattle.upstream_link.specs.Chunks.{ChunksTo, body_limit}
use Rattle.upstream_link.proofs.chunks.take_chunks.Given as goal

abbrev pub invariant-chunks : goal.invariant-chunks
invariant-chunks g l =
    (length l.content.items ≤ body_limit) × (g.W.Wire.dialled l.wire ≡ true) × (g.W.Wire.faults l.wire ≡ g.W.Wire.faults l.initial.wire) × (g.W.Wire.dial_faults l.wire ≡ g.W.Wire.dial_faults l.initial.wire)
    × ((t : List ℕ) × Brings (g.W.Wire.coming l.initial.wire, g.W.Wire.log l.initial.wire) t false false (g.W.Wire.coming l.wire, g.W.Wire.log l.wire) × ChunksTo (l.initial.kept ++ t) l.content.items l.kept)

abbrev pub decreases-chunks : goal.decreases-chunks
decreases-chunks g l = body_limit - length l.content.items
