-- The nodes of a plan in memory, each with those below it, and how they are made of rows.
use Rattle.std.specs.Prelude.{◌≡◌, ℕ, suc, ◌<◌, List, [], ◌∷◌, ◌++◌, map, get_or, Bool, true, false, not, eqb, ◌&&◌, Option, None, Some}
use Rattle.std.specs.Borrow.{Bor}
use Rattle.std.specs.BTreeMap.{get}
use Rattle.std.specs.Ordering.{nat_cmp}
use Rattle.serde_json.specs.Data.{Data}
use Rattle.response_model.specs.Plan.{Selected, Plan, leaf_plan, position, ObjectTypes, no_type, object_type, Nodes, no_node, node, nodes_of}
use Rattle.response_model.specs.Bound.{IsSound, TypesSound, NodesSound}
use Rattle.plan_model.specs.SelectedFields.{Setting}
use Rattle.plan_table.specs.declared.rows.NodeRow.{NodeRow}
use Rattle.plan_table.specs.Rows.{PossibleType, Below, leaf_below, objects_below, Row, below_in, rows_below, rows_of_types, rows_of_nodes}
use Rattle.plan_table.specs.Tables.{row_of}
use Rattle.response_meter.specs.declared.nested.Node.{Node}
use Rattle.response_meter.specs.declared.nested.Types.{Types}
use Rattle.response_meter.specs.declared.nested.NodeSet.{NodeSet}
use Rattle.response_meter.specs.declared.nested.Node.TheOpen.{Node-F, NodeSet-F, Types-F}
use Rattle.response_meter.specs.declared.nested.Node.TheFolds.{fold-Node, fold-NodeSet, fold-Types}
use Rattle.response_meter.specs.declared.nested.Node.TheViews.{out-Types}

-- The types of a position, where `nodes` gives the nodes of each, and what stands below a node likewise.
abbrev pub types_with : (ℕ → Nodes) → List PossibleType → ObjectTypes
types_with nodes [] = no_type
types_with nodes (t ∷ possible) = object_type t.number t.weight (nodes t.number) (types_with nodes possible)

abbrev pub plan_with : (ℕ → Nodes) → Below → Plan
plan_with nodes (leaf_below type weight fill) = leaf_plan type weight fill
plan_with nodes (objects_below possible) = position (types_with nodes possible)

-- A node without those behind it.
abbrev pub OneNode : Type 0
OneNode = Selected × Plan

abbrev pub nodes_from : List OneNode → Nodes
nodes_from [] = no_node
nodes_from (n ∷ ns) = node n.0 n.1 (nodes_from ns)

-- The nodes at a place, or others where there is no place.
abbrev pub nodes_at : Option ℕ → List Nodes → Nodes → Nodes
nodes_at None sets others = others
nodes_at (Some at) sets others = get_or sets at others

module _ (e : Setting) where
  abbrev pub node_step : Node-F OneNode Nodes (ℕ → Nodes) → OneNode
  node_step n = ((row_of e n.row.now).selected, plan_with n.below (row_of e n.row.now).below)

  abbrev pub types_step : Types-F OneNode Nodes (ℕ → Nodes) → ℕ → Nodes
  types_step ts = λ T. nodes_at (get nat_cmp ts.places T) ts.sets.items ts.none

  abbrev pub set_step : NodeSet-F OneNode Nodes (ℕ → Nodes) → Nodes
  set_step s = nodes_from s.nodes.items

  unfoldable pub node_of : Node → OneNode
  node_of = fold-Node OneNode Nodes (ℕ → Nodes) node_step set_step types_step

  unfoldable pub types_of : Types → ℕ → Nodes
  types_of = fold-Types OneNode Nodes (ℕ → Nodes) node_step set_step types_step

  unfoldable pub set_of : NodeSet → Nodes
  set_of = fold-NodeSet OneNode Nodes (ℕ → Nodes) node_step set_step types_step

  abbrev pub nodes_in : List Node → Nodes
  nodes_in ns = nodes_from (map node_of ns)

  abbrev pub set_at : Types → ℕ → Nodes
  set_at types at = get_or (map set_of (out-Types types).sets.items) at (set_of (out-Types types).none)

  abbrev pub rows_in : List NodeRow → List Row
  rows_in rows = map (row_of e) rows

-- ---- how rows are taken

abbrev pub is_next : ℕ → Bool → NodeRow → Bool
is_next depth behind r = eqb r.depth depth && not (behind && r.first)

abbrev pub StopsAt : ℕ → Bool → List NodeRow → Type 0
StopsAt depth behind [] = Unit {0}
StopsAt depth behind (r ∷ rows) = is_next depth behind r ≡ false

-- The first row was taken, or is none to take.
abbrev pub Pops : ℕ → Bool → Option (Bor NodeRow) → List NodeRow → List NodeRow → Type 0
Pops depth behind None old new = (new ≡ old) × StopsAt depth behind old
Pops depth behind (Some r) old new = (old ≡ r.now ∷ new) × (is_next depth behind r.now ≡ true)

-- ---- what is made of rows

-- The first row is less deep, or there is none.
abbrev pub Ends : ℕ → List Row → Type 0
Ends d [] = Unit {0}
Ends d (r ∷ rows) = r.depth < d

-- No further node of a type at this depth comes first.
abbrev pub EndsType : ℕ → List Row → Type 0
EndsType d [] = Unit {0}
EndsType d (r ∷ rows) = (eqb r.depth d && not r.first) ≡ false

-- Whatever the rows of these types are, the types are those that were made, and the rows behind them are left.
abbrev pub NestsTypes : ℕ → List NodeRow → List NodeRow → Types → Type 0
NestsTypes d old new types = (e : Setting) (holds : ℕ → Data → Bool) (possible : ObjectTypes) (more : List Row) → TypesSound holds possible → Ends d more
    → rows_in e old ≡ rows_of_types d possible ++ more → ((T : ℕ) → types_of e types T ≡ nodes_of T possible) × (rows_in e new ≡ more)

-- Likewise of what stands below a node.
abbrev pub NestsNode : NodeRow → List NodeRow → List NodeRow → Node → Type 0
NestsNode row old new n = (e : Setting) (holds : ℕ → Data → Bool) (below : Plan) (more : List Row) → IsSound holds below → (row_of e row).below ≡ below_in below → Ends (suc row.depth) more
    → rows_in e old ≡ rows_below (suc row.depth) below ++ more → (node_of e n ≡ ((row_of e row).selected, below)) × (rows_in e new ≡ more)

-- Likewise of the nodes of a type, of which the first is that of a row.
abbrev pub NestsSet : NodeRow → List NodeRow → List NodeRow → NodeSet → Type 0
NestsSet row old new set = (e : Setting) (holds : ℕ → Data → Bool) (T weight : ℕ) (below : Plan) (others : Nodes) (more : List Row)
    → IsSound holds below → NodesSound holds others → (row_of e row).below ≡ below_in below → Ends (suc row.depth) more → EndsType row.depth more
    → rows_in e old ≡ rows_below (suc row.depth) below ++ (rows_of_nodes row.depth T weight false others ++ more)
    → (set_of e set ≡ node (row_of e row).selected below others) × (rows_in e new ≡ more)
