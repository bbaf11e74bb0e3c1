use Rattle.account_shared.proofs.Stretches.{alone_gained}
use Rattle.account_shared.proofs.laws.never_split.Goals as goal

pub returns : goal.returns
returns c = alone_gained
