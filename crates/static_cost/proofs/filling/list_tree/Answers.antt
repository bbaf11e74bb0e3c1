use Rattle.plan_table.proofs.ResponseTrees.{list_made}
use Rattle.static_cost.proofs.filling.list_tree.Goals as goal

pub returns : goal.returns
returns c = list_made c.args.items
