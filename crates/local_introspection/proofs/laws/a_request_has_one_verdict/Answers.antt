use Rattle.local_introspection.proofs.OneVerdict.{not_both, one_refusal, one_answer, costs_that}
use Rattle.local_introspection.proofs.laws.a_request_has_one_verdict.Goals as goal

pub returns-clause-not_both : goal.returns-clause-not_both
returns-clause-not_both c = not_both

pub returns-clause-one_refusal : goal.returns-clause-one_refusal
returns-clause-one_refusal c = one_refusal

pub returns-clause-one_answer : goal.returns-clause-one_answer
returns-clause-one_answer c = one_answer

pub returns-clause-one_cost : goal.returns-clause-one_cost
returns-clause-one_cost c = costs_that
