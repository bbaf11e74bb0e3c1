use Rattle.std.proofs.Common.{◌≡◌, ◌++◌, drop, map}
use Rattle.plan_table.specs.Trees.{tree_of, keyed_tree}
use Rattle.plan_table.proofs.copies.+copies.Given as goal

abbrev pub invariant-copy_items-items : goal.invariant-copy_items-items
invariant-copy_items-items l = map tree_of l.copies.items ++ map tree_of (drop l.item-index l.items) ≡ map tree_of l.items

abbrev pub invariant-copy_entries-entries : goal.invariant-copy_entries-entries
invariant-copy_entries-entries l = map keyed_tree l.copies.items ++ map keyed_tree (drop l.entry-index l.entries) ≡ map keyed_tree l.entries
