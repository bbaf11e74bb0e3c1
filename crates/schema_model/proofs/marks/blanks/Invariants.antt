use Rattle.std.proofs.Common.{[]}
use Rattle.schema_model.specs.Numbers.{Marks}
use Rattle.schema_model.proofs.marks.blanks.Given as goal

-- No place so far has a mark.
abbrev pub invariant-loop : goal.invariant-loop
invariant-loop l = Marks l.marks.items []
