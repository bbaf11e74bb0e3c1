use Rattle.std.proofs.Common.{◌≡◌, ◌++◌, drop, map}
use Rattle.schema_rules.specs.Views.{item_tree}
use Rattle.schema_rules.specs.Items.{definition_items}
use Rattle.schema_reader.specs.Trees.{definition_tree}
use Rattle.std.specs.List.{flat_map}
use Rattle.schema_rules.proofs.items.items_of.Given as goal

-- The things so far, and then those of what is left.
abbrev pub invariant-loop-def : goal.invariant-loop-def
invariant-loop-def l = map item_tree l.items.items ++ flat_map definition_items (map definition_tree (drop l.def-index l.text.definitions.items)) ≡ flat_map definition_items (map definition_tree l.text.definitions.items)
