use Rattle.cost_shares.proofs.AddedUp.{filled_add}
use Rattle.cost_shares.proofs.laws.filled_shares_add_up.Goals as goal

pub returns : goal.returns
returns c = filled_add
