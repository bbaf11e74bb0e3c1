-- Nodes in memory that are made or opened.
use Rattle.std.proofs.Common.{◌≡◌, ℕ, Vec, Global, map, ap}
use Rattle.std.specs.Borrow.{Bor}
use Rattle.std.specs.BTreeMap.{BTreeMap, get}
use Rattle.std.specs.Ordering.{nat_cmp}
use Rattle.response_model.specs.Plan.{Nodes}
use Rattle.plan_model.specs.SelectedFields.{Setting}
use Rattle.plan_table.specs.declared.rows.NodeRow.{NodeRow}
use Rattle.plan_table.specs.Tables.{row_of}
use Rattle.response_meter.specs.declared.nested.Node.{Node}
use Rattle.response_meter.specs.declared.nested.Types.{Types}
use Rattle.response_meter.specs.declared.nested.NodeSet.{NodeSet}
use Rattle.response_meter.specs.declared.nested.Node.TheViews.{out-Node, out-NodeSet, out-Types, roll-Node, roll-NodeSet, roll-Types}
use Rattle.response_meter.specs.declared.nested.Node.TheFolds.{fold-roll-Node, fold_out-Node, fold-roll-Types, fold_out-Types, fold-roll-NodeSet, fold_out-NodeSet}
use Rattle.response_meter.specs.Nested.{plan_with, OneNode, nodes_from, nodes_at, node_step, types_step, set_step, node_of, types_of, set_of}

module _ (e : Setting) where
  pub node_made : (row : Bor NodeRow) (below : Types) → node_of e (roll-Node record { row = row; below = below }) ≡ ((row_of e row.now).selected, plan_with (types_of e below) (row_of e row.now).below)
  unfolding node_of types_of set_of
  node_made row below = fold-roll-Node OneNode Nodes (ℕ → Nodes) (node_step e) (set_step e) (types_step e) record { row = row; below = below }

  pub node_opened : (n : Node) → node_of e n ≡ ((row_of e (out-Node n).row.now).selected, plan_with (types_of e (out-Node n).below) (row_of e (out-Node n).row.now).below)
  unfolding node_of types_of set_of
  node_opened n = fold_out-Node OneNode Nodes (ℕ → Nodes) (node_step e) (set_step e) (types_step e) n

  pub types_made : (places : BTreeMap ℕ ℕ) (sets : Vec NodeSet Global) (none : NodeSet) (T : ℕ) → types_of e (roll-Types record { places = places; sets = sets; none = none }) T ≡ nodes_at (get nat_cmp places T) (map (set_of e) sets.items) (set_of e none)
  unfolding node_of types_of set_of
  types_made places sets none T = ap (λ (f : ℕ → Nodes). f T) (fold-roll-Types OneNode Nodes (ℕ → Nodes) (node_step e) (set_step e) (types_step e) record { places = places; sets = sets; none = none })

  pub types_opened : (ts : Types) (T : ℕ) → types_of e ts T ≡ nodes_at (get nat_cmp (out-Types ts).places T) (map (set_of e) (out-Types ts).sets.items) (set_of e (out-Types ts).none)
  unfolding node_of types_of set_of
  types_opened ts T = ap (λ (f : ℕ → Nodes). f T) (fold_out-Types OneNode Nodes (ℕ → Nodes) (node_step e) (set_step e) (types_step e) ts)

  pub set_made : (nodes : Vec Node Global) → set_of e (roll-NodeSet record { nodes = nodes }) ≡ nodes_from (map (node_of e) nodes.items)
  unfolding node_of types_of set_of
  set_made nodes = fold-roll-NodeSet OneNode Nodes (ℕ → Nodes) (node_step e) (set_step e) (types_step e) record { nodes = nodes }

  pub set_opened : (s : NodeSet) → set_of e s ≡ nodes_from (map (node_of e) (out-NodeSet s).nodes.items)
  unfolding node_of types_of set_of
  set_opened s = fold_out-NodeSet OneNode Nodes (ℕ → Nodes) (node_step e) (set_step e) (types_step e) s
