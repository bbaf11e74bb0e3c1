use Rattle.std.proofs.Common.{drop, map}
use Rattle.schema_model.specs.Numbers.{type_number}
use Rattle.schema_model.proofs.MarkSteps.{MarksLeft}
use Rattle.schema_model.proofs.marks.marks_of.Given as goal

-- The marks so far and what is left tell of the whole.
abbrev pub invariant-loop-number : goal.invariant-loop-number
invariant-loop-number l = MarksLeft l.marks.items (drop l.number-index l.numbers) (map type_number l.numbers)
