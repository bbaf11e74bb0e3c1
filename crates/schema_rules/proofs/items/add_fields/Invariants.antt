use Rattle.std.proofs.Common.{◌≡◌, ◌++◌, drop, map}
use Rattle.schema_rules.specs.Views.{item_tree}
use Rattle.schema_rules.specs.Items.{field_items}
use Rattle.schema_reader.specs.Trees.{field_tree}
use Rattle.std.specs.List.{flat_map}
use Rattle.schema_rules.proofs.items.add_fields.Given as goal

-- The things so far, and then those of what is left.
abbrev pub invariant-loop-field : goal.invariant-loop-field
invariant-loop-field l = map item_tree l.items.items ++ flat_map (field_items l.of) (map field_tree (drop l.field-index l.fields)) ≡ map item_tree l.initial.items.items ++ flat_map (field_items l.of) (map field_tree l.fields)
