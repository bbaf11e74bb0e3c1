use Rattle.std.proofs.Common.{◌≡◌, drop, map}
use Rattle.schema_rules.specs.Views.{item_tree}
use Rattle.schema_rules.specs.First.{first_of}
use Rattle.schema_rules.specs.EmptyType.{empty_at}
use Rattle.schema_rules.proofs.faults.empty_type.first_empty_type.Given as goal

-- What is left answers as the whole.
abbrev pub invariant-loop-item : goal.invariant-loop-item
invariant-loop-item l = first_of empty_at (map item_tree (drop l.item-index l.items)) ≡ first_of empty_at (map item_tree l.items)
