use Rattle.account_shared.proofs.Stretches.{none_gained}
use Rattle.account_shared.proofs.laws.gains_none.Goals as goal

pub returns : goal.returns
returns c = none_gained
