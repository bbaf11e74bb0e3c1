use Rattle.std.proofs.Common.{◌≡◌, ◌++◌, drop, map}
use Rattle.schema_rules.specs.Views.{item_tree}
use Rattle.schema_rules.specs.Items.{argument_item}
use Rattle.schema_reader.specs.Trees.{input_tree}
use Rattle.schema_rules.proofs.items.add_arguments.Given as goal

-- The things so far, and then those of what is left.
abbrev pub invariant-loop-input : goal.invariant-loop-input
invariant-loop-input l = map item_tree l.items.items ++ map (argument_item l.of l.field) (map input_tree (drop l.input-index l.inputs)) ≡ map item_tree l.initial.items.items ++ map (argument_item l.of l.field) (map input_tree l.inputs)
