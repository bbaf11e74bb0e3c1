use Rattle.std.proofs.Common.{rules, drop}
use Rattle.plan_table.specs.Tables.{table_rows}
use Rattle.response_model.specs.Components.{part_of}
use Rattle.static_cost.proofs.Picks.{first_choices, next_choices}
use Rattle.static_cost.proofs.choices.chosen_types.Goals as goal

pub loop-at-init : goal.loop-at-init
loop-at-init c = first_choices (part_of c.args.part) c.args.of.now c.node_rows-rows.result.now c.new-picks.result c.new-found.result.items c.node_rows-rows.ensures c.new-picks.ensures c.new-found.ensures.items

pub loop-at-preserved : goal.loop-at-preserved
loop-at-preserved c = next_choices (part_of c.args.part) c.args.of.now c.node_rows-rows.result.now c.loop-at.at c.index-rows-at.result c.take.new.self c.take.result c.loop-at.found.items c.push.new.self.items
    c.node_rows-rows.ensures (search rules) (search rules) c.index-rows-at.is
    (c.take.ensures.taken (drop c.loop-at.at (table_rows c.args.of.now)) c.loop-at.invariant.0)
    (c.take.ensures.chosen (drop c.loop-at.at (table_rows c.args.of.now)) c.loop-at.invariant.0)
    c.loop-at.invariant.1 (search rules)
