use Rattle.std.proofs.Common.{arith}
use Rattle.cost_num.specs.CostText.{last_digits, shown}
use Rattle.cost_num.proofs.ShownPlaces.{below_ten}
use Rattle.cost_num.proofs.laws.worked_amounts.Goals as goal

pub returns-clause-none : goal.returns-clause-none
unfolding shown last_digits
returns-clause-none c = below_ten 0 (omega arith)

pub returns-clause-third : goal.returns-clause-third
unfolding shown last_digits
returns-clause-third c = below_ten 7250000 (omega arith)

pub returns-clause-fourth : goal.returns-clause-fourth
unfolding shown last_digits
returns-clause-fourth c = below_ten 1234500 (omega arith)

pub returns-clause-fifth : goal.returns-clause-fifth
unfolding shown last_digits
returns-clause-fifth c = below_ten 7000010 (omega arith)

pub returns-clause-sixth : goal.returns-clause-sixth
unfolding shown last_digits
returns-clause-sixth c = below_ten 1 (omega arith)
