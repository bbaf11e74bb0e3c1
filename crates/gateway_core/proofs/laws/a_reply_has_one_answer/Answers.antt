-- What is granted holds a plan whose types have different names, and a reply to such a plan is read in one way.
use Rattle.gateway_core.proofs.OneAnswer.{measured_alike, measured_once, faulty_once, measured_or_faulty, answered_alike, answered_once}
use Rattle.gateway_core.proofs.laws.a_reply_has_one_answer.Goals as goal

pub returns-clause-one_cost : goal.returns-clause-one_cost
returns-clause-one_cost c = measured_alike record {
  passes = c.fault_or_reading.ensures.passes;
  once = c.one_reply.ensures;
  named = c.named_tables.ensures;
  plain = c.answers_without_floats.ensures;
}

pub returns-clause-one_fault : goal.returns-clause-one_fault
returns-clause-one_fault c = faulty_once record {
  passes = c.fault_or_reading.ensures.passes;
  once = c.one_reply.ensures;
  named = c.named_tables.ensures;
  plain = c.answers_without_floats.ensures;
}

pub returns-clause-not_both : goal.returns-clause-not_both
returns-clause-not_both c = measured_or_faulty record {
  passes = c.fault_or_reading.ensures.passes;
  once = c.one_reply.ensures;
  named = c.named_tables.ensures;
  plain = c.answers_without_floats.ensures;
}

pub returns-clause-alike : goal.returns-clause-alike
returns-clause-alike c = answered_alike record {
  passes = c.fault_or_reading.ensures.passes;
  once = c.one_reply.ensures;
  named = c.named_tables.ensures;
  plain = c.answers_without_floats.ensures;
}

pub returns-clause-one_measure : goal.returns-clause-one_measure
returns-clause-one_measure c rules g reply a b none granted = measured_once (record {
  passes = c.fault_or_reading.ensures.passes;
  once = c.one_reply.ensures;
  named = c.named_tables.ensures;
  plain = c.answers_without_floats.ensures;
}) rules g reply a b none granted

pub returns-clause-one_answer : goal.returns-clause-one_answer
returns-clause-one_answer c rules g outcome a b none granted = answered_once (record {
  passes = c.fault_or_reading.ensures.passes;
  once = c.one_reply.ensures;
  named = c.named_tables.ensures;
  plain = c.answers_without_floats.ensures;
}) rules g outcome a b none granted
