use Rattle.std.proofs.Common.{◌≡◌, drop, map}
use Rattle.schema_rules.specs.Views.{item_tree, named_kind}
use Rattle.schema_rules.specs.First.{first_of}
use Rattle.schema_rules.specs.UnknownType.{unknown_at}
use Rattle.schema_rules.proofs.faults.unknown_type.first_unknown_type.Given as goal

-- What is left answers as the whole.
abbrev pub invariant-loop-item : goal.invariant-loop-item
invariant-loop-item l = first_of (unknown_at (map named_kind l.types.items.now)) (map item_tree (drop l.item-index l.items)) ≡ first_of (unknown_at (map named_kind l.types.items.now)) (map item_tree l.items)
