use Rattle.acceptance.proofs.AlikeRequests.{alike_not_both, alike_one_bound, alike_one_refusal}
use Rattle.acceptance.proofs.laws.alike_requests_have_one_verdict.Goals as goal

pub returns-clause-not_both : goal.returns-clause-not_both
returns-clause-not_both c = alike_not_both

pub returns-clause-one_bound : goal.returns-clause-one_bound
returns-clause-one_bound c = alike_one_bound

pub returns-clause-one_refusal : goal.returns-clause-one_refusal
returns-clause-one_refusal c = alike_one_refusal
