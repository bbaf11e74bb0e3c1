use Rattle.collected_fields.specs.Reaching.{AreReached}
use Rattle.collected_fields.proofs.reaching.find_fragments.Given as goal

abbrev pub invariant-loop-number : goal.invariant-loop-number
invariant-loop-number l = AreReached l.tables l.fn.found → AreReached l.tables l.found
