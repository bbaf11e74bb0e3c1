use Rattle.std.proofs.Common.{rules, refl}
use Rattle.plan_table.specs.Tables.{row_in}
use Rattle.plan_table.specs.Totals.{totals}
use Rattle.response_model.specs.Components.{part_of}
use Rattle.static_cost.proofs.Picks.{totals_taken, type_picked, none_taken, chosen_is}
use Rattle.static_cost.proofs.choices.Picks.take.Goals as goal

pub returns-then-before-cost-clause-taken : goal.returns-then-before-cost-clause-taken
returns-then-before-cost-clause-taken c rows holds = (
  totals_taken (part_of c.args.part) (row_in c.args.of.now c.args.row.now) rows c.take-cost.new.self (c.take-cost.ensures.taken (totals (part_of c.args.part) rows) holds.0),
  type_picked (part_of c.args.part) c.args.of.now c.args.row.now rows c.args.self.now _ c.take-cost.result c.if-row.true c.args.row.now.within (search rules) refl (c.take-cost.ensures.cost (totals (part_of c.args.part) rows) holds.0) c.if-before-cost.true holds,
)

pub returns-then-before-cost-clause-chosen : goal.returns-then-before-cost-clause-chosen
returns-then-before-cost-clause-chosen c rows holds = chosen_is (part_of c.args.part) c.args.of.now c.args.row.now rows c.args.self.now c.chosen-found.result c.args.row.now.within c.chosen-found.ensures holds

pub returns-else-row-clause-taken : goal.returns-else-row-clause-taken
returns-else-row-clause-taken c rows holds = (
  totals_taken (part_of c.args.part) (row_in c.args.of.now c.args.row.now) rows c.take-cost.new.self (c.take-cost.ensures.taken (totals (part_of c.args.part) rows) holds.0),
  none_taken (part_of c.args.part) c.args.of.now c.args.row.now rows c.args.self.now _ c.take-cost.result c.args.row.now.within refl (c.take-cost.ensures.cost (totals (part_of c.args.part) rows) holds.0) c.else-row.either holds,
)

pub returns-else-row-clause-chosen : goal.returns-else-row-clause-chosen
returns-else-row-clause-chosen c rows holds = chosen_is (part_of c.args.part) c.args.of.now c.args.row.now rows c.args.self.now c.chosen-found.result c.args.row.now.within c.chosen-found.ensures holds
