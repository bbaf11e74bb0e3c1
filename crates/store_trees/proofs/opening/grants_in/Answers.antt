use Rattle.std.proofs.Common.{◌∙◌}
use Rattle.store_trees.proofs.Refusals.{not_grants}
use Rattle.store_trees.proofs.opening.grants_in.Goals as goal

pub returns-in_default-clause-refused : goal.returns-in_default-clause-refused
returns-in_default-clause-refused c = not_grants c.args.rows.now c.rows.row-index c.row-item.result c.rows-test.true (λ grant small is. (let e = c.in_default.ensures.all grant small (c.row-item.is ∙ is) in cc))
