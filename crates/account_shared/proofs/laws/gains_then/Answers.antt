use Rattle.account_shared.proofs.Stretches.{gained_then}
use Rattle.account_shared.proofs.laws.gains_then.Goals as goal

pub returns : goal.returns
returns c = gained_then
