use Rattle.std.proofs.Common.{◌≡◌, ◌-◌, length, drop}
use Rattle.document_reader.specs.Picking.{first_where, is_operation}
use Rattle.document_reader.proofs.picking.first_operation.Given as goal

abbrev pub invariant-loop-at : goal.invariant-loop-at
invariant-loop-at l = first_where is_operation l.at (drop l.at l.definitions) ≡ first_where is_operation 0 l.definitions

abbrev pub decreases-loop-at : goal.decreases-loop-at
decreases-loop-at l = length l.definitions - l.at
