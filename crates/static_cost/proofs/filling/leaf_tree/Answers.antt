use Rattle.plan_table.proofs.ResponseTrees.{leaf_made}
use Rattle.static_cost.proofs.filling.leaf_tree.Goals as goal

pub returns : goal.returns
returns c = leaf_made c.args.value
