use Rattle.std.proofs.Common.{◌≡◌, ◌≤◌, ◌+◌, drop}
use Rattle.operation_commands.specs.Audit.{operations_of}
use Rattle.operation_commands.proofs.findings.operations_of.Given as goal

-- Those so far and those of what is left are all.
abbrev pub invariant-loop-at : goal.invariant-loop-at
invariant-loop-at l = record {
  sum : l.count + operations_of (drop l.at l.findings) ≡ operations_of l.findings;
  within : l.count ≤ l.at;
}
