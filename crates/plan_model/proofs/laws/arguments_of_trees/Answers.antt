use Rattle.plan_model.proofs.GivenArguments.{same_arguments_written}
use Rattle.plan_model.proofs.laws.arguments_of_trees.Goals as goal

pub returns : goal.returns
returns c = same_arguments_written
