use Rattle.std.proofs.Common.{◌≡◌, ◌++◌, drop, map}
use Rattle.schema_rules.specs.Views.{item_tree}
use Rattle.schema_rules.specs.Items.{interface_item}
use Rattle.schema_rules.proofs.items.add_interfaces.Given as goal

-- The things so far, and then those of what is left.
abbrev pub invariant-loop-name : goal.invariant-loop-name
invariant-loop-name l = map item_tree l.items.items ++ map (interface_item l.of) (drop l.name-index l.names) ≡ map item_tree l.initial.items.items ++ map (interface_item l.of) l.names
