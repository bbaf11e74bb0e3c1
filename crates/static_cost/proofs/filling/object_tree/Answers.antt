use Rattle.plan_table.proofs.ResponseTrees.{object_made}
use Rattle.static_cost.proofs.filling.object_tree.Goals as goal

pub returns : goal.returns
returns c = object_made record { number = c.args.on } c.args.entries
