-- By the bytes of the head.
use Rattle.upstream_link.proofs.OneHead.{reads_head, one_head}
use Rattle.upstream_link.proofs.laws.a_request_is_one_head.Goals as goal

pub returns-clause-reads : goal.returns-clause-reads
returns-clause-reads c = reads_head

pub returns-clause-one : goal.returns-clause-one
returns-clause-one c = one_head
