use Rattle.cost_shares.proofs.AddedUp.{all_add}
use Rattle.cost_shares.proofs.laws.shares_add_up.Goals as goal

pub returns : goal.returns
returns c = all_add
