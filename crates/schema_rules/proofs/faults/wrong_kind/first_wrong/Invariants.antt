use Rattle.std.proofs.Common.{◌≡◌, drop, map}
use Rattle.schema_rules.specs.Views.{item_tree, named_kind}
use Rattle.schema_rules.specs.First.{first_of}
use Rattle.schema_rules.specs.WrongKind.{wrong_at}
use Rattle.schema_rules.proofs.faults.wrong_kind.first_wrong.Given as goal

-- What is left answers as the whole.
abbrev pub invariant-loop-item : goal.invariant-loop-item
invariant-loop-item l = first_of (wrong_at (map named_kind l.types.items.now) l.has_schema) (map item_tree (drop l.item-index l.items)) ≡ first_of (wrong_at (map named_kind l.types.items.now) l.has_schema) (map item_tree l.items)
