use Rattle.std.proofs.Common.{◌≡◌, ◌++◌, drop, map}
use Rattle.input_values.specs.values.Coerced.{coerced_tree, named_tree}
use Rattle.input_values.proofs.values.copies.+copies.Given as goal

abbrev pub invariant-copy_items-items : goal.invariant-copy_items-items
invariant-copy_items-items l = map coerced_tree l.copies.items ++ map coerced_tree (drop l.item-index l.items) ≡ map coerced_tree l.items

abbrev pub invariant-copy_fields-fields : goal.invariant-copy_fields-fields
invariant-copy_fields-fields l = map named_tree l.copies.items ++ map named_tree (drop l.field-index l.fields) ≡ map named_tree l.fields
