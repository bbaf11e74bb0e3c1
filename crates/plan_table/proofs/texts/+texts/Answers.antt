use Rattle.std.proofs.Common.{◌++◌, string_bytes, append_assoc, sym, ap, ◌∙◌}
use Rattle.response_model.specs.ResponseText.{key_text, tree_text}
use Rattle.plan_table.specs.Trees.{tree_of}
use Rattle.plan_table.proofs.ResponseTrees.{null_made, leaf_made, list_made, object_made, entry_opened}
use Rattle.plan_table.proofs.ResponseTexts.{on_ok}
use Rattle.plan_table.proofs.texts.+texts.Goals as goal

pub write_tree-returns-in-Null : goal.write_tree-returns-in-Null
write_tree-returns-in-Null t c = rw (c.in-Null.is, null_made) (on_ok c.write_null.result (λ e clean. e) c.write_null.ensures)

pub write_tree-returns-in-Leaf : goal.write_tree-returns-in-Leaf
write_tree-returns-in-Leaf t c = rw (c.in-Leaf.is, leaf_made c.in-Leaf.value) c.write_value.ensures.text

pub write_tree-returns-in-List : goal.write_tree-returns-in-List
write_tree-returns-in-List t c = rw (c.in-List.is, list_made c.in-List.items, sym c.as_slice.ensures.value) c.write_list.ensures

pub write_tree-returns-in-Object : goal.write_tree-returns-in-Object
write_tree-returns-in-Object t c = rw (c.in-Object.is, object_made c.in-Object.field-0 c.in-Object.entries, sym c.as_slice-in-Object.ensures.value) c.write_object.ensures

pub write_entry-returns : goal.write_entry-returns
write_entry-returns t c = rw (entry_opened c.args.entry.now) (on_ok c.write_tree.result (λ e clean. e clean
    ∙ ap (λ x. x ++ tree_text (tree_of c.args.entry.now.value)) (c.in_ok-write_key.ensures ∙ ap (λ k. string_bytes c.args.into.now ++ key_text k) c.as_str.ensures)
    ∙ append_assoc (string_bytes c.args.into.now) (key_text c.args.entry.now.key) (tree_text (tree_of c.args.entry.now.value))) c.write_tree.ensures)
