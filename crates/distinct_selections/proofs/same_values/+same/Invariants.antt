use Rattle.std.proofs.Common.{◌≡◌, ◌-◌, ◌≤◌, drop, map, length}
use Rattle.input_values.specs.values.Coerced.{coerced_tree, named_tree, trees_from, named_trees_from}
use Rattle.plan_model.specs.SameArguments.{same_items, same_fields}
use Rattle.distinct_selections.proofs.same_values.+same.Given as goal

abbrev pub invariant-same_items-items : goal.invariant-same_items-items
invariant-same_items-items l = (l.at ≤ length l.items) × (l.at ≤ length l.others) × (same_items (trees_from (map coerced_tree (drop l.at l.items))) (trees_from (map coerced_tree (drop l.at l.others))) ≡ same_items (trees_from (map coerced_tree l.items)) (trees_from (map coerced_tree l.others)))

abbrev pub decreases-same_items-items : goal.decreases-same_items-items
decreases-same_items-items l = length l.items - l.at

abbrev pub invariant-same_fields-fields : goal.invariant-same_fields-fields
invariant-same_fields-fields l = (l.at ≤ length l.fields) × (l.at ≤ length l.others) × (same_fields (named_trees_from (map named_tree (drop l.at l.fields))) (named_trees_from (map named_tree (drop l.at l.others))) ≡ same_fields (named_trees_from (map named_tree l.fields)) (named_trees_from (map named_tree l.others)))

abbrev pub decreases-same_fields-fields : goal.decreases-same_fields-fields
decreases-same_fields-fields l = length l.fields - l.at
