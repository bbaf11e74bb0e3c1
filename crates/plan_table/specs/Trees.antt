-- Responses in memory, as trees.
use Rattle.std.specs.Prelude.{ℕ, List, [], ◌∷◌}
use Rattle.serde_json.specs.View.{view}
use Rattle.response_model.specs.Response.{Tree as ResponseTree, null, leaf, list_of, object, Elements, no_element, element, Entries, no_entry, entry}
use Rattle.plan_table.specs.declared.response.Tree.{Tree}
use Rattle.plan_table.specs.declared.response.Entry.{Entry}
use Rattle.plan_table.specs.declared.response.Tree.TheOpen.{Tree-F, Entry-F}
use Rattle.plan_table.specs.declared.response.Tree.TheFolds.{fold-Tree, fold-Entry}

abbrev pub elements_from : List ResponseTree → Elements
elements_from [] = no_element
elements_from (t ∷ ts) = element t (elements_from ts)

-- a response key and its value
abbrev pub KeyedTree : Type 0
KeyedTree = List ℕ × ResponseTree

abbrev pub entries_from : List KeyedTree → Entries
entries_from [] = no_entry
entries_from (e ∷ es) = entry e.0 e.1 (entries_from es)

abbrev pub tree_step : Tree-F ResponseTree KeyedTree → ResponseTree
tree_step Tree-F.Null = null
tree_step (Tree-F.Leaf json) = leaf (view json)
tree_step (Tree-F.List items) = list_of (elements_from items.items)
tree_step (Tree-F.Object type entries) = object type.number (entries_from entries.items)

abbrev pub entry_step : Entry-F ResponseTree KeyedTree → KeyedTree
entry_step e = (e.key, e.value)

-- the tree of a response
unfoldable pub tree_of : Tree → ResponseTree
tree_of = fold-Tree ResponseTree KeyedTree tree_step entry_step

-- the key and the tree of an entry
unfoldable pub keyed_tree : Entry → KeyedTree
keyed_tree = fold-Entry ResponseTree KeyedTree tree_step entry_step
