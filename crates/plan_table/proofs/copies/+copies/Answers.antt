use Rattle.std.proofs.Common.{sym, ap, ◌∙◌}
use Rattle.plan_table.specs.Trees.{tree_of}
use Rattle.plan_table.proofs.ResponseTrees.{entry_made, entry_opened, same_leaves, same_lists, same_objects}
use Rattle.plan_table.proofs.copies.+copies.Goals as goal

pub copy_tree-returns-in_ok-copy_json-in-Leaf : goal.copy_tree-returns-in_ok-copy_json-in-Leaf
copy_tree-returns-in_ok-copy_json-in-Leaf t c = same_leaves c.in_ok-copy_json-in-Leaf.field-0 c.in-Leaf.value c.in_ok-copy_json-in-Leaf.ensures ∙ ap tree_of (sym c.in-Leaf.is)

pub copy_tree-returns-in_ok-copy_items-in-List : goal.copy_tree-returns-in_ok-copy_items-in-List
copy_tree-returns-in_ok-copy_items-in-List t c = same_lists c.in_ok-copy_items-in-List.field-0 c.in-List.items c.as_slice.result.now c.as_slice.ensures.value c.in_ok-copy_items-in-List.ensures ∙ ap tree_of (sym c.in-List.is)

pub copy_tree-returns-in_ok-copy_entries-in-Object : goal.copy_tree-returns-in_ok-copy_entries-in-Object
copy_tree-returns-in_ok-copy_entries-in-Object t c =
    same_objects c.in-Object.on c.in_ok-copy_entries-in-Object.field-0 c.in-Object.entries c.as_slice-in-Object.result.now c.as_slice-in-Object.ensures.value c.in_ok-copy_entries-in-Object.ensures ∙ ap tree_of (sym c.in-Object.is)

pub copy_entry-returns : goal.copy_entry-returns
copy_entry-returns t c =
    entry_made c.in_ok-key.key c.in_ok-value.value
    ∙ (ap (λ k. (k, tree_of c.in_ok-value.value)) (c.in_ok-key.ensures ∙ c.as_str.ensures) ∙ (ap (λ v. (c.args.entry.now.key, v)) c.in_ok-value.ensures ∙ sym (entry_opened c.args.entry.now)))
