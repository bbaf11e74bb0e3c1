-- By the lemmas on one fault.
use Rattle.http_front.proofs.Either.{ends}
use Rattle.http_front.proofs.OneFault.{one_fault}
use Rattle.http_front.proofs.laws.bytes_have_one_fault.Goals as goal

pub returns-clause-at_end : goal.returns-clause-at_end
returns-clause-at_end c = ends

pub returns-clause-one_fault : goal.returns-clause-one_fault
returns-clause-one_fault c = one_fault
