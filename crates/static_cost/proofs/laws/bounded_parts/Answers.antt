use Rattle.static_cost.proofs.Counted.{bounded, other_named}
use Rattle.static_cost.proofs.laws.bounded_parts.Goals as goal

pub returns-clause-found : goal.returns-clause-found
returns-clause-found c = bounded

pub returns-clause-types : goal.returns-clause-types
returns-clause-types c p fault names = (other_named p fault names).0

pub returns-clause-fields : goal.returns-clause-fields
returns-clause-fields c p fault names = (other_named p fault names).1
