-- What is kept was taken.
use Rattle.std.proofs.Common.{◌≡◌, ◌-◌, ◌++◌, ℕ, List, length}
use Rattle.outside.specs.Taken.{Took}
use Rattle.http_front.proofs.front.take_head.Given as goal

abbrev pub invariant-pieces : goal.invariant-pieces
invariant-pieces g l =
    (g.S.Source.faults l.from ≡ g.S.Source.faults l.initial.from)
    × ((t : List ℕ) × Took (g.S.Source.left l.initial.from) t (g.S.Source.left l.from) × (l.kept.items ≡ l.initial.kept.items ++ t))
    × (g.S.Source.ended l.from ≡ g.S.Source.ended l.initial.from)

abbrev pub decreases-pieces : goal.decreases-pieces
decreases-pieces g l = 16384 - length l.kept.items
