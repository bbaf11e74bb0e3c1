use Rattle.plan_table.proofs.TreesAgain.{same_trees}
use Rattle.plan_table.proofs.laws.one_tree.Goals as goal

pub returns : goal.returns
returns c = same_trees
