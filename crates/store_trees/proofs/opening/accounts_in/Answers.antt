use Rattle.std.proofs.Common.{◌∙◌}
use Rattle.store_trees.proofs.Refusals.{not_accounts}
use Rattle.store_trees.proofs.opening.accounts_in.Goals as goal

pub returns-in_default-clause-refused : goal.returns-in_default-clause-refused
returns-in_default-clause-refused c = not_accounts c.args.rows.now c.rows.row-index c.row-item.result c.rows-test.true (λ client account small is. (let e = c.in_default.ensures.all client account small (c.row-item.is ∙ is) in cc))
