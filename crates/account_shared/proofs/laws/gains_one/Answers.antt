use Rattle.account_shared.proofs.Stretches.{one_gained}
use Rattle.account_shared.proofs.laws.gains_one.Goals as goal

pub returns : goal.returns
returns c = one_gained
