use Rattle.response_model.proofs.Filling.{filled_is_filled}
use Rattle.response_model.proofs.laws.filled_response.Goals as goal

pub returns : goal.returns
returns c = filled_is_filled
