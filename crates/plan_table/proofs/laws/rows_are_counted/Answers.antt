use Rattle.plan_table.proofs.TableTrees.{rows_counted}
use Rattle.plan_table.proofs.laws.rows_are_counted.Goals as goal

pub returns : goal.returns
returns c = rows_counted
