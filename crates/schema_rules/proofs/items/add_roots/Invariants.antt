use Rattle.std.proofs.Common.{◌≡◌, ◌++◌, drop, map}
use Rattle.schema_rules.specs.Views.{item_tree}
use Rattle.schema_rules.specs.Items.{root_item_of}
use Rattle.schema_reader.specs.Trees.{root_tree}
use Rattle.schema_rules.proofs.items.add_roots.Given as goal

-- The things so far, and then those of what is left.
abbrev pub invariant-loop-root : goal.invariant-loop-root
invariant-loop-root l = map item_tree l.items.items ++ map root_item_of (map root_tree (drop l.root-index l.roots)) ≡ map item_tree l.initial.items.items ++ map root_item_of (map root_tree l.roots)
