-- The filled response as it is read from rows, and what filling takes.
use Rattle.std.specs.Prelude.{◌≡◌, ◌<◌, ℕ, suc, ◌+◌, List, map, drop, Result, Ok, Err}
use Rattle.response_model.specs.Response.{Tree, list_of, object, Elements, Entries}
use Rattle.response_model.specs.Filled.{repeated, filled_in, filled_count}
use Rattle.plan_table.specs.declared.response.Entry.{Entry}
use Rattle.plan_table.specs.declared.rows.NodeRow.{NodeRow}
use Rattle.plan_table.specs.declared.response.Tree.{Tree as ResponseTree}
use Rattle.plan_table.specs.declared.table.Plan.{Plan}
use Rattle.plan_table.specs.Tables.{row_in, table_rows}
use Rattle.plan_table.specs.Trees.{tree_of, keyed_tree, entries_from}
use Rattle.static_cost.specs.Worst.{values_of_entries}
use Rattle.static_cost.specs.declared.filling.WorstFault.{WorstFault}
use Rattle.static_cost.specs.declared.filling.WorstFault.TheVariants.{TooLarge, Memory}
use Rattle.static_cost.specs.declared.filling.Node.{Node}
use Rattle.static_cost.specs.Choices.{item_by, entries_by}

-- What is told where filling ends early: there were too few values left, or too little memory.
abbrev pub Lacks : WorstFault → Type 0 → Type 0
Lacks TooLarge fewer = fewer
Lacks Memory fewer = Unit {0}

-- What was made took this number of the values that were left.
abbrev pub Fills : {A : Type 0} → Result A WorstFault → ℕ → ℕ → ℕ → (A → Type 0) → Type 0
Fills (Ok x) before after count made = (after + count ≡ before) × made x
Fills (Err fault) before after count made = Lacks fault (before < count)

abbrev pub entries_from_row : Plan → List ℕ → ℕ → ℕ → ℕ → Entries
entries_from_row p choices from d T = entries_by d T (drop from (table_rows p)) (drop from choices)

-- the item of a row, where objects of this type stand below it, and the next row has this place
abbrev pub item_at : Plan → List ℕ → NodeRow → ℕ → ℕ → Tree
item_at p choices row on next = item_by (row_in p row).below on (entries_from_row p choices next (suc row.depth) on)

abbrev pub value_at : Plan → List ℕ → NodeRow → ℕ → ℕ → Tree
value_at p choices row on next = filled_in (row_in p row).selected.form (row_in p row).selected.size (item_at p choices row on next)

abbrev pub item_of : Plan → List ℕ → Node → Tree
item_of p choices n = item_at p choices n.row.now n.on n.next

-- the entries of a node's object
abbrev pub entries_of : Plan → List ℕ → Node → Entries
entries_of p choices n = entries_from_row p choices n.next (suc n.row.now.depth) n.on

-- so many items of a node
abbrev pub items_of : Plan → List ℕ → Node → ℕ → Elements
items_of p choices n count = repeated count (item_of p choices n)

-- the entries that these are
abbrev pub made_entries : List Entry → Entries
made_entries es = entries_from (map keyed_tree es)

abbrev pub list_value : Plan → List ℕ → Node → Tree
list_value p choices n = list_of (repeated (filled_count n.row.now.size) (item_of p choices n))

abbrev pub value_of : Plan → List ℕ → Node → Tree
value_of p choices n = value_at p choices n.row.now n.on n.next

-- What was made is the object of a node, and took as many values as its entries have.
abbrev pub FillsObject : Plan → List ℕ → Node → Result ResponseTree WorstFault → ℕ → ℕ → Type 0
FillsObject p choices n result before after = Fills result before after (values_of_entries (entries_of p choices n)) (λ t. tree_of t ≡ object n.on (entries_of p choices n))
