use Rattle.trusted_documents.proofs.ReadBodies.{read_by}
use Rattle.trusted_documents.proofs.laws.a_body_is_one_request_by_a_list.Goals as goal

pub returns-clause-some : goal.returns-clause-some
returns-clause-some c = λ list body. read_by list body (c.a_body_is_one_request_or_has_one_fault.ensures.some body)
