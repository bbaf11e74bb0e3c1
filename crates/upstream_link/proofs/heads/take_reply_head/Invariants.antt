use Rattle.std.proofs.Common.{◌≡◌, ◌≤◌, ◌-◌, ◌++◌, ℕ, List, length, true, false}
use Rattle.httparse.specs.Grammar.{ResponseHead}
use Rattle.upstream_link.specs.Received.{Brings}
use Rattle.upstream_link.specs.ReplyHeads.{HeadsTo}
use Rattle.upstream_link.proofs.heads.take_reply_head.Given as goal

abbrev pub invariant-heads : goal.invariant-heads
invariant-heads g l =
    (l.passed ≤ 8) × (g.W.Wire.dialled l.wire ≡ true) × (g.W.Wire.faults l.wire ≡ g.W.Wire.faults l.initial.wire) × (g.W.Wire.dial_faults l.wire ≡ g.W.Wire.dial_faults l.initial.wire)
    × ((t : List ℕ) × (hs : List ResponseHead) × Brings (g.W.Wire.coming l.initial.wire, g.W.Wire.log l.initial.wire) t false false (g.W.Wire.coming l.wire, g.W.Wire.log l.wire)
    × HeadsTo (l.initial.kept ++ t) hs l.kept × (length hs ≡ l.passed))

abbrev pub decreases-heads : goal.decreases-heads
decreases-heads g l = 8 - l.passed
