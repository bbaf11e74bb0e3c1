use Rattle.std.proofs.Common.{drop}
use Rattle.collected_fields.specs.Reaching.{SetsCollectNothing, Reaching, AreReached}
use Rattle.collected_fields.proofs.reaching.add_sets.Given as goal

abbrev pub invariant-loop-set : goal.invariant-loop-set
invariant-loop-set l =
    (AreReached l.tables l.fn.found → AreReached l.tables l.found)
    × (AreReached l.tables l.fn.found → Reaching l.tables l.fn.reach l.reach (λ T. SetsCollectNothing l.tables T (drop l.set-index l.sets) → SetsCollectNothing l.tables T l.sets))
