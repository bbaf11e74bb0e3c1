use Rattle.plan_model.proofs.CheckedRanks.{checked_is_acyclic}
use Rattle.plan_model.proofs.laws.checked_operations_are_acyclic.Goals as goal

pub returns : goal.returns
returns c = λ s ds o none w values root. checked_is_acyclic s w values ds o root none
