use Rattle.cost_shares.specs.Shares.{single_values}
use Rattle.cost_shares.proofs.NodeOrder.{below_order}
use Rattle.cost_shares.proofs.laws.shares_are_of_rows.Goals as goal

pub returns : goal.returns
returns c depth plan t = below_order depth plan (single_values t)
