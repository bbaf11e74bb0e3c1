use Rattle.cost_num.proofs.AmountTexts.{spelled_amount}
use Rattle.cost_num.proofs.laws.spelled_amounts.Goals as goal

pub returns : goal.returns
returns c = spelled_amount
