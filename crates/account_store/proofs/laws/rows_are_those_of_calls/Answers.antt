use Rattle.std.proofs.Common.{[]}
use Rattle.account_store.proofs.CallSteps.{all_steps, legal_all, none_legal}
use Rattle.account_store.proofs.laws.rows_are_those_of_calls.Goals as goal

pub returns-clause-next : goal.returns-clause-next
returns-clause-next c = all_steps

pub returns-clause-all : goal.returns-clause-all
returns-clause-all c limits history next = all_steps limits [] history (none_legal limits) next

pub returns-clause-legal : goal.returns-clause-legal
returns-clause-legal c = legal_all
