-- By the lemmas on the end, and on two faults.
use Rattle.upstream_link.proofs.Either.{ends_held}
use Rattle.upstream_link.proofs.OneFault.{one_fault}
use Rattle.upstream_link.proofs.laws.bytes_have_one_fault.Goals as goal

pub returns-clause-at_end : goal.returns-clause-at_end
returns-clause-at_end c = ends_held

pub returns-clause-one_fault : goal.returns-clause-one_fault
returns-clause-one_fault c = one_fault
