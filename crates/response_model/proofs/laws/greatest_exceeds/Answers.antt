use Rattle.response_model.proofs.Filling.{exceeds}
use Rattle.response_model.proofs.laws.greatest_exceeds.Goals as goal

pub returns : goal.returns
returns c = exceeds
