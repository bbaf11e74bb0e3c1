use Rattle.plan_model.proofs.SameValues.{same_as_equal}
use Rattle.plan_model.proofs.laws.same_arguments_are_equal.Goals as goal

pub returns : goal.returns
returns c = same_as_equal
