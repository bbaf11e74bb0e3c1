use Rattle.std.proofs.Common.{◌≡◌, ◌+◌, drop, map}
use Rattle.input_values.specs.values.Coerced.{coerced_tree, named_tree, item_nodes, field_nodes, trees_from, named_trees_from}
use Rattle.input_values.specs.values.Counting.{counted}
use Rattle.input_values.proofs.values.counting.+counts.Given as goal

abbrev pub invariant-count_items-items : goal.invariant-count_items-items
invariant-count_items-items l = counted l.limit (l.count + item_nodes (trees_from (map coerced_tree (drop l.item-index l.items)))) ≡ counted l.limit (l.initial.count + item_nodes (trees_from (map coerced_tree l.items)))

abbrev pub invariant-count_fields-fields : goal.invariant-count_fields-fields
invariant-count_fields-fields l = counted l.limit (l.count + field_nodes (named_trees_from (map named_tree (drop l.field-index l.fields)))) ≡ counted l.limit (l.initial.count + field_nodes (named_trees_from (map named_tree l.fields)))
