use Rattle.std.proofs.Common.{◌≡◌, ◌≤◌, ◌+◌, drop, map, length}
use Rattle.schema_rules.specs.Views.{item_tree}
use Rattle.std.specs.List.{filter}
use Rattle.schema_rules.specs.TooMany.{is_field}
use Rattle.schema_rules.proofs.faults.too_many.field_count.Given as goal

-- Those so far and those of what is left are all.
abbrev pub invariant-loop-at : goal.invariant-loop-at
invariant-loop-at l = record {
  sum : l.count + length (filter is_field (map item_tree (drop l.at l.items))) ≡ length (filter is_field (map item_tree l.items));
  within : l.count ≤ l.at;
}
