use Rattle.plan_table.proofs.TableTrees.{greatest_of_table}
use Rattle.plan_table.proofs.laws.rows_have_greatest_costs.Goals as goal

pub returns : goal.returns
returns c = greatest_of_table
