use Rattle.response_model.proofs.Filling.{attains_greatest}
use Rattle.response_model.proofs.laws.filled_attains.Goals as goal

pub returns : goal.returns
returns c = attains_greatest
