use Rattle.std.proofs.Common.{◌≡◌, ◌≤◌, ◌+◌, ◌-◌, length, drop}
use Rattle.document_reader.specs.Picking.{count_where, is_operation}
use Rattle.document_reader.proofs.picking.count_operations.Given as goal

abbrev pub invariant-loop-at : goal.invariant-loop-at
invariant-loop-at l = record {
  whole : l.count + count_where is_operation (drop l.at l.definitions) ≡ count_where is_operation l.definitions;
  fewer : l.count ≤ l.at;
}

abbrev pub decreases-loop-at : goal.decreases-loop-at
decreases-loop-at l = length l.definitions - l.at
