use Rattle.std.proofs.Common.{◌≡◌, length, map, drop}
use Rattle.input_values.specs.values.Coerced.{coerced_tree, named_tree}
use Rattle.literal_loads.proofs.same_values.+same.Given as goal

abbrev pub invariant-same_items-items : goal.invariant-same_items-items
invariant-same_items-items l = record {
  long : length l.items ≡ length l.others;
  same : map coerced_tree (drop l.at l.items) ≡ map coerced_tree (drop l.at l.others);
}

abbrev pub invariant-same_fields-fields : goal.invariant-same_fields-fields
invariant-same_fields-fields l = record {
  long : length l.fields ≡ length l.others;
  same : map named_tree (drop l.at l.fields) ≡ map named_tree (drop l.at l.others);
}
