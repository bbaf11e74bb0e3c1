use Rattle.std.proofs.Common.{drop, All}
use Rattle.collected_fields.specs.Gathering.{IsNumber}
use Rattle.collected_fields.proofs.collector.Collector.knows.Given as goal

abbrev pub invariant-loop-number : goal.invariant-loop-number
invariant-loop-number l = All (IsNumber l.self) (drop l.number-index l.numbers) → All (IsNumber l.self) l.numbers
