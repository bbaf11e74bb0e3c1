use Rattle.std.proofs.Common.{◌≡◌, ◌++◌, drop}
use Rattle.aligned_lines.specs.Aligned.{lines_seen}
use Rattle.cost_tables.specs.Tables.{nodes_cells, shown_cells}
use Rattle.cost_tables.proofs.nodes.push_nodes.Given as goal

-- with the lines of the nodes that are left they are those of all that are shown
abbrev pub invariant-loop-at : goal.invariant-loop-at
invariant-loop-at l = lines_seen l.lines.items ++ nodes_cells l.of l.types l.fields l.at l.stack.items (drop l.at l.shown) ≡ lines_seen l.fn.lines.items ++ shown_cells l.of l.types l.fields
