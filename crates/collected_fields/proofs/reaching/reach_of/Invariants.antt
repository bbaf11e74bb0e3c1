use Rattle.std.proofs.Common.{drop, flat_map}
use Rattle.collected_fields.specs.Lists.{sets_in_joins}
use Rattle.collected_fields.specs.Reaching.{SetsCollectNothing, Reaching, AreAllReached}
use Rattle.collected_fields.proofs.reaching.reach_of.Given as goal

abbrev pub invariant-loop-number : goal.invariant-loop-number
invariant-loop-number l =
    (AreAllReached l.tables l.joins l.fn.all → AreAllReached l.tables l.joins l.all)
    × (AreAllReached l.tables l.joins l.fn.all → Reaching l.tables l.initial.reach l.reach (λ T. SetsCollectNothing l.tables T (flat_map (sets_in_joins l.joins) (drop l.number-index l.numbers)) → SetsCollectNothing l.tables T (flat_map (sets_in_joins l.joins) l.numbers)))
