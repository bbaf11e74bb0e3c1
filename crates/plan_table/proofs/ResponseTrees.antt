-- Responses in memory that are opened or made.
use Rattle.std.proofs.Common.{◌≡◌, ℕ, List, map, Vec, Global, sym, ap, ◌∙◌}
use Rattle.serde_json.specs.declared.Value.{Value}
use Rattle.serde_json.specs.View.{view}
use Rattle.input_values.specs.declared.inputs.shape.TypeId.{TypeId}
use Rattle.response_model.specs.Response.{Tree as ResponseTree, null, leaf, list_of, object}
use Rattle.plan_table.specs.declared.response.Tree.{Tree}
use Rattle.plan_table.specs.declared.response.Entry.{Entry}
use Rattle.plan_table.specs.declared.response.Tree.TheOpen.{Tree-F}
use Rattle.plan_table.specs.declared.response.Tree.TheFolds.{fold-roll-Tree, fold_out-Entry, fold-roll-Entry}
use Rattle.plan_table.specs.declared.response.Tree.TheViews.{List as ListTree, Object as ObjectTree, roll-Entry}
use Rattle.plan_table.specs.declared.response.Tree.TheBlock.{Null as NullTree, Leaf as LeafTree}
use Rattle.plan_table.specs.Trees.{KeyedTree, tree_step, entry_step, tree_of, keyed_tree, elements_from, entries_from}

pub null_made : tree_of NullTree ≡ null
unfolding tree_of Rattle.plan_table.specs.declared.response.Tree.TheViews.roll-Tree denote.Hole.Carrier.roll
null_made = fold-roll-Tree ResponseTree KeyedTree tree_step entry_step Tree-F.Null

pub leaf_made : (value : Value) → tree_of (LeafTree value) ≡ leaf (view value)
unfolding tree_of Rattle.plan_table.specs.declared.response.Tree.TheViews.roll-Tree denote.Hole.Carrier.roll
leaf_made value = fold-roll-Tree ResponseTree KeyedTree tree_step entry_step (Tree-F.Leaf value)

pub list_made : (items : Vec Tree Global) → tree_of (ListTree items) ≡ list_of (elements_from (map tree_of items.items))
unfolding tree_of Rattle.plan_table.specs.declared.response.Tree.TheViews.roll-Tree denote.Hole.Carrier.roll
list_made items = fold-roll-Tree ResponseTree KeyedTree tree_step entry_step (Tree-F.List items)

pub object_made : (on : TypeId) (entries : Vec Entry Global) → tree_of (ObjectTree on entries) ≡ object on.number (entries_from (map keyed_tree entries.items))
unfolding tree_of keyed_tree Rattle.plan_table.specs.declared.response.Tree.TheViews.roll-Tree denote.Hole.Carrier.roll
object_made on entries = fold-roll-Tree ResponseTree KeyedTree tree_step entry_step (Tree-F.Object on entries)

pub entry_made : (key : List ℕ) (value : Tree) → keyed_tree (roll-Entry record { key = key; value = value }) ≡ (key, tree_of value)
unfolding keyed_tree tree_of
entry_made key value = fold-roll-Entry ResponseTree KeyedTree tree_step entry_step record { key = key; value = value }

pub entry_opened : (e : Entry) → keyed_tree e ≡ (e.key, tree_of e.value)
unfolding keyed_tree tree_of
entry_opened e = fold_out-Entry ResponseTree KeyedTree tree_step entry_step e

pub same_leaves : (v w : Value) → view v ≡ view w → tree_of (LeafTree v) ≡ tree_of (LeafTree w)
same_leaves v w same = leaf_made v ∙ (ap leaf same ∙ sym (leaf_made w))

pub same_lists : (v w : Vec Tree Global) (items : List Tree) → items ≡ w.items → map tree_of v.items ≡ map tree_of items → tree_of (ListTree v) ≡ tree_of (ListTree w)
same_lists v w items seen same = list_made v ∙ (ap (λ l. list_of (elements_from l)) (same ∙ ap (map tree_of) seen) ∙ sym (list_made w))

pub same_objects : (on : TypeId) (v w : Vec Entry Global) (entries : List Entry) → entries ≡ w.items → map keyed_tree v.items ≡ map keyed_tree entries → tree_of (ObjectTree on v) ≡ tree_of (ObjectTree on w)
same_objects on v w entries seen same = object_made on v ∙ (ap (λ l. object on.number (entries_from l)) (same ∙ ap (map keyed_tree) seen) ∙ sym (object_made on w))

pub ruleset made_trees = (null_made, leaf_made, list_made, object_made)
