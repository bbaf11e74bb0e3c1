use Rattle.plan_table.proofs.ResponseTrees.{entry_made}
use Rattle.static_cost.proofs.filling.entry.Goals as goal

pub returns : goal.returns
returns c = entry_made c.args.key c.args.value
