-- By the lemma on the filled response.
use Rattle.static_cost.proofs.OperationBounds.{attains}
use Rattle.static_cost.proofs.laws.worst_attains_the_bound.Goals as goal

pub returns : goal.returns
returns c = attains
