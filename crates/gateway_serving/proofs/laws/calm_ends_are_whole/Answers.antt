use Rattle.gateway_serving.proofs.AddedUp.{calm_whole}
use Rattle.gateway_serving.proofs.laws.calm_ends_are_whole.Goals as goal

pub returns : goal.returns
returns c = calm_whole
