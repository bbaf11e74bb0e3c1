use Rattle.cost_tables.proofs.ColumnSums.{adds_up}
use Rattle.cost_tables.proofs.laws.columns_add_up.Goals as goal

pub returns : goal.returns
returns c = λ p part shares price are is. adds_up p part shares is.0 price are is.1 is.2 is.3
