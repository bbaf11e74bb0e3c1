use Rattle.std.proofs.Common.{◌≡◌, ◌≤◌, drop}
use Rattle.cost_num.specs.declared.TheConstants.{CAP}
use Rattle.operation_commands.specs.Audit.{greater, greatest}
use Rattle.operation_commands.proofs.findings.greatest.Given as goal

-- The greatest so far and that of what is left give the greatest of all.
abbrev pub invariant-loop-at : goal.invariant-loop-at
invariant-loop-at l = record {
  types_within : l.most.types ≤ CAP;
  fields_within : l.most.fields ≤ CAP;
  same : greater l.most (greatest (drop l.at l.findings)) ≡ greatest l.findings;
}
