use Rattle.std.proofs.Common.{◌≡◌, ◌+◌, ◌≤◌, length, drop}
use Rattle.document_rules.specs.Parts.{operations_of}
use Rattle.document_rules.proofs.rules.lone_anonymous.operation_count.Given as goal

abbrev pub invariant-loop-definition : goal.invariant-loop-definition
invariant-loop-definition l = record {
  same : l.count + length (operations_of (drop l.definition-index l.definitions)) ≡ length (operations_of l.definitions);
  within : l.count ≤ l.definition-index;
}
