use Rattle.std.proofs.Common.{length}
use Rattle.collected_fields.specs.Gathering.{Grows}
use Rattle.collected_fields.proofs.collector.Collector.note_all.Given as goal

abbrev pub invariant-loop-number : goal.invariant-loop-number
invariant-loop-number l = Grows l.fn.self l.self

abbrev pub decreases-loop-number : goal.decreases-loop-number
decreases-loop-number l = length l.all.items
