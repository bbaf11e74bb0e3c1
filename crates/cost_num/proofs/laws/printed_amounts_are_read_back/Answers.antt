use Rattle.cost_num.proofs.PrintedAmounts.{printed_read_back}
use Rattle.cost_num.proofs.laws.printed_amounts_are_read_back.Goals as goal

pub returns : goal.returns
returns c = printed_read_back
