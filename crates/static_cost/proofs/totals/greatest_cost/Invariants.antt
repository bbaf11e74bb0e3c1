use Rattle.std.proofs.Common.{drop}
use Rattle.plan_table.specs.Tables.{table_rows}
use Rattle.plan_table.specs.Totals.{totals}
use Rattle.response_model.specs.Components.{part_of}
use Rattle.static_cost.specs.ByDepth.{HoldsTotals}
use Rattle.static_cost.proofs.totals.greatest_cost.Given as goal

-- The costs by depth are those of the rows that were taken.
abbrev pub invariant-loop-at : goal.invariant-loop-at
invariant-loop-at l = HoldsTotals (totals (part_of l.part) (drop l.at (table_rows l.of))) l.by_depth
