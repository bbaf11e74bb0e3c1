use Rattle.std.proofs.Common.{◌≡◌, ◌++◌, drop, map}
use Rattle.schema_rules.specs.Views.{item_tree, named_kind}
use Rattle.schema_rules.specs.TypeNames.{types_defined}
use Rattle.schema_rules.proofs.type_names.types_defined.Given as goal

-- The types so far, and then those of what is left.
abbrev pub invariant-loop-item : goal.invariant-loop-item
invariant-loop-item l = map named_kind l.types.items ++ types_defined (map item_tree (drop l.item-index l.items)) ≡ types_defined (map item_tree l.items)
