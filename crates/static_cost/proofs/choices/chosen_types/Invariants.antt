use Rattle.std.proofs.Common.{◌≡◌, drop, reverse}
use Rattle.plan_table.specs.Tables.{table_rows}
use Rattle.response_model.specs.Components.{part_of}
use Rattle.static_cost.specs.Choices.{choices}
use Rattle.static_cost.specs.Picking.{HoldsPicks}
use Rattle.static_cost.proofs.choices.chosen_types.Given as goal

-- What was found is the choices of the rows that were taken, the last first.
abbrev pub invariant-loop-at : goal.invariant-loop-at
invariant-loop-at l = HoldsPicks (part_of l.part) (drop l.at (table_rows l.of)) l.picks × (l.found.items ≡ reverse (choices (part_of l.part) (drop l.at (table_rows l.of))))
