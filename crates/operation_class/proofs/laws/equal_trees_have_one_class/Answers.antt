use Rattle.operation_class.proofs.SameClass.{one_class}
use Rattle.operation_class.proofs.laws.equal_trees_have_one_class.Goals as goal

pub returns : goal.returns
returns c = one_class
