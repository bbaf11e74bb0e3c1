use Rattle.std.proofs.Common.{◌≡◌, drop, map}
use Rattle.schema_rules.specs.Views.{item_tree}
use Rattle.schema_rules.specs.First.{first_of}
use Rattle.schema_rules.specs.Roots.{root_told}
use Rattle.schema_rules.proofs.roots.first_root.Given as goal

-- What is left answers as the whole.
abbrev pub invariant-loop-item : goal.invariant-loop-item
invariant-loop-item l = first_of (root_told l.wanted) (map item_tree (drop l.item-index l.items)) ≡ first_of (root_told l.wanted) (map item_tree l.items)
