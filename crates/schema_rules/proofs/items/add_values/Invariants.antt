use Rattle.std.proofs.Common.{◌≡◌, ◌++◌, drop, map}
use Rattle.schema_rules.specs.Views.{item_tree}
use Rattle.schema_rules.specs.Items.{enum_value_of}
use Rattle.schema_reader.specs.Trees.{enum_value_tree}
use Rattle.schema_rules.proofs.items.add_values.Given as goal

-- The things so far, and then those of what is left.
abbrev pub invariant-loop-value : goal.invariant-loop-value
invariant-loop-value l = map item_tree l.items.items ++ map (enum_value_of l.of) (map enum_value_tree (drop l.value-index l.values)) ≡ map item_tree l.initial.items.items ++ map (enum_value_of l.of) (map enum_value_tree l.values)
