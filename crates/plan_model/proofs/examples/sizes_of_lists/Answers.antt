use Rattle.plan_model.proofs.Computed.{handed_size, sliced_size, undeclared_size}
use Rattle.plan_model.proofs.examples.sizes_of_lists.Goals as goal

pub returns-clause-handed : goal.returns-clause-handed
returns-clause-handed c = handed_size

pub returns-clause-sliced : goal.returns-clause-sliced
returns-clause-sliced c = sliced_size

pub returns-clause-undeclared : goal.returns-clause-undeclared
returns-clause-undeclared c = undeclared_size
