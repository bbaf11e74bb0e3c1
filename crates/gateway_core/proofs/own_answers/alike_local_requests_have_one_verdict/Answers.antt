-- What one comes to, the other comes to.
use Rattle.std.specs.Prelude.{Ok, Err}
use Rattle.gateway_core.proofs.own_answers.alike_local_requests_have_one_verdict.Goals as goal

pub returns-clause-one_answer : goal.returns-clause-one_answer
returns-clause-one_answer c r q a b alike one other =
    c.a_request_has_one_verdict.ensures.one_answer q a b (c.alike_requests_are_answered_alike.ensures r q (Ok a) alike one) other

pub returns-clause-one_refusal : goal.returns-clause-one_refusal
returns-clause-one_refusal c r q f h alike told told_too one other =
    c.a_request_has_one_verdict.ensures.one_refusal q f h told told_too (c.alike_requests_are_answered_alike.ensures r q (Err f) alike one) other

pub returns-clause-not_both : goal.returns-clause-not_both
returns-clause-not_both c r q a f alike told one other =
    c.a_request_has_one_verdict.ensures.not_both q a f told (c.alike_requests_are_answered_alike.ensures r q (Ok a) alike one) other
