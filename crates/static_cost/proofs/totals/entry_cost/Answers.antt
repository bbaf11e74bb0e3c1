use Rattle.std.proofs.Common.{◌+◌, ap, ◌∙◌}
use Rattle.cost_num.specs.Capped.{capped}
use Rattle.static_cost.proofs.RowCosts.{entry_of_fields}
use Rattle.static_cost.proofs.totals.entry_cost.Goals as goal

pub returns-in-Fields : goal.returns-in-Fields
returns-in-Fields c = rw (c.in-Fields.is) (entry_of_fields c.args.of.now c.args.row.now c.sum_capped.result (c.sum_capped.ensures ∙ ap (λ n. capped (n + c.args.row.now.arguments)) c.field_weight.ensures))
