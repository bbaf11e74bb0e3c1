use Rattle.operation_class.proofs.Reached.{reached}
use Rattle.operation_class.proofs.laws.root_fields_are_those_that_stand_there.Goals as goal

pub returns : goal.returns
returns c = reached
