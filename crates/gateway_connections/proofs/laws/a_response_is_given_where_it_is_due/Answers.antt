-- By the laws on bodies, on what is granted, and on replies.
use Rattle.gateway_core.specs.Grants.{promise_of}
use Rattle.gateway_connections.proofs.Responses.{given_where_due, given_here, due_where_given, not_both}
use Rattle.gateway_connections.proofs.laws.a_response_is_given_where_it_is_due.Goals as goal

pub returns-clause-given : goal.returns-clause-given
returns-clause-given c = given_where_due record {
  priced = λ rules body reply metered m. (m.0.bound, c.a_body_comes_to_one_thing.ensures.promised rules body m.0 m.1);
  priced_or_unfit = c.a_body_comes_to_one_thing.ensures.not_both;
  local = c.a_body_comes_to_one_thing.ensures.local;
  granted = λ rules body g. c.a_body_comes_to_one_thing.ensures.promised rules body (promise_of g);
  finished = c.a_reply_to_a_body_has_one_measure.ensures.finished;
  no_fault = c.bytes_begin_with_one_reply.ensures.no_fault;
  one = c.bytes_begin_with_one_reply.ensures.one;
}

pub returns-clause-given_here : goal.returns-clause-given_here
returns-clause-given_here c = given_here record {
  priced = λ rules body reply metered m. (m.0.bound, c.a_body_comes_to_one_thing.ensures.promised rules body m.0 m.1);
  priced_or_unfit = c.a_body_comes_to_one_thing.ensures.not_both;
  local = c.a_body_comes_to_one_thing.ensures.local;
  granted = λ rules body g. c.a_body_comes_to_one_thing.ensures.promised rules body (promise_of g);
  finished = c.a_reply_to_a_body_has_one_measure.ensures.finished;
  no_fault = c.bytes_begin_with_one_reply.ensures.no_fault;
  one = c.bytes_begin_with_one_reply.ensures.one;
}

pub returns-clause-due : goal.returns-clause-due
returns-clause-due c = due_where_given

pub returns-clause-not_both : goal.returns-clause-not_both
returns-clause-not_both c = not_both record {
  priced = λ rules body reply metered m. (m.0.bound, c.a_body_comes_to_one_thing.ensures.promised rules body m.0 m.1);
  priced_or_unfit = c.a_body_comes_to_one_thing.ensures.not_both;
  local = c.a_body_comes_to_one_thing.ensures.local;
  granted = λ rules body g. c.a_body_comes_to_one_thing.ensures.promised rules body (promise_of g);
  finished = c.a_reply_to_a_body_has_one_measure.ensures.finished;
  no_fault = c.bytes_begin_with_one_reply.ensures.no_fault;
  one = c.bytes_begin_with_one_reply.ensures.one;
}
