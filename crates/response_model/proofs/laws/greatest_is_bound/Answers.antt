use Rattle.response_model.proofs.Filling.{bound_is}
use Rattle.response_model.proofs.laws.greatest_is_bound.Goals as goal

pub returns : goal.returns
returns c = bound_is
