use Rattle.std.proofs.Common.{◌≡◌, ◌-◌, length, drop}
use Rattle.document_reader.specs.Picking.{first_where, is_named}
use Rattle.document_reader.proofs.picking.first_named.Given as goal

abbrev pub invariant-loop-at : goal.invariant-loop-at
invariant-loop-at l = first_where (is_named l.name) l.at (drop l.at l.definitions) ≡ first_where (is_named l.name) 0 l.definitions

abbrev pub decreases-loop-at : goal.decreases-loop-at
decreases-loop-at l = length l.definitions - l.at
