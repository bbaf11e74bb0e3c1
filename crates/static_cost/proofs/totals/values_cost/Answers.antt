use Rattle.std.proofs.Common.{◌*◌, sym, ap, ◌∙◌}
use Rattle.cost_num.specs.Capped.{capped}
use Rattle.static_cost.proofs.RowCosts.{list_of_any_length, list_of_length}
use Rattle.static_cost.proofs.totals.values_cost.Goals as goal

pub returns-in-None : goal.returns-in-None
returns-in-None c = list_of_any_length c.args.of.now c.args.row.now c.args.each (sym c.is_list.ensures ∙ c.if-not-is_list.false) c.in-None.is

pub returns-in-Some : goal.returns-in-Some
returns-in-Some c = list_of_length c.args.of.now c.args.row.now c.in-Some.size c.args.each c.times_capped.result (sym c.is_list.ensures ∙ c.if-not-is_list.false) c.in-Some.is
    (c.times_capped.ensures ∙ ap (λ n. capped (n * c.in-Some.size)) c.min-in-Some.ensures)
