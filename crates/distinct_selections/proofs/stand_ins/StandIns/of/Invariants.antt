use Rattle.std.proofs.Common.{◌≡◌}
use Rattle.distinct_selections.specs.SameVariables.{AreRight}
use Rattle.distinct_selections.proofs.stand_ins.StandIns.of.Given as goal

abbrev pub invariant-loop-variable : goal.invariant-loop-variable
invariant-loop-variable l = record {
  variables : l.made.variables.now ≡ l.variables;
  right : AreRight l.made;
}
