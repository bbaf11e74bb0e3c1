-- A body is read in one way, and a reply to it too.
use Rattle.gateway_core.proofs.OneMeasure.{measured_alike, measured_once, faulty_once, measured_or_faulty, answered}
use Rattle.gateway_core.proofs.laws.a_reply_to_a_body_has_one_measure.Goals as goal

pub returns-clause-cost : goal.returns-clause-cost
returns-clause-cost c rules body reply a b differ = measured_alike (record {
  one_asked = c.a_body_is_one_request_by_a_list.ensures.one_request;
  trees = c.a_text_is_one_document.ensures.texts;
  offsets = c.a_text_is_one_document.ensures.places;
  one_plan = c.alike_requests_are_answered_alike.ensures.one_plan;
  reading = record {
    passes = c.fault_or_reading.ensures.passes;
    once = c.one_reply.ensures;
    named = c.named_tables.ensures;
    plain = c.answers_without_floats.ensures;
  };
}) rules differ body reply a b

pub returns-clause-measure : goal.returns-clause-measure
returns-clause-measure c rules body reply a b none differ = measured_once (record {
  one_asked = c.a_body_is_one_request_by_a_list.ensures.one_request;
  trees = c.a_text_is_one_document.ensures.texts;
  offsets = c.a_text_is_one_document.ensures.places;
  one_plan = c.alike_requests_are_answered_alike.ensures.one_plan;
  reading = record {
    passes = c.fault_or_reading.ensures.passes;
    once = c.one_reply.ensures;
    named = c.named_tables.ensures;
    plain = c.answers_without_floats.ensures;
  };
}) rules differ body reply none a b

pub returns-clause-fault : goal.returns-clause-fault
returns-clause-fault c rules body reply a b differ = faulty_once (record {
  one_asked = c.a_body_is_one_request_by_a_list.ensures.one_request;
  trees = c.a_text_is_one_document.ensures.texts;
  offsets = c.a_text_is_one_document.ensures.places;
  one_plan = c.alike_requests_are_answered_alike.ensures.one_plan;
  reading = record {
    passes = c.fault_or_reading.ensures.passes;
    once = c.one_reply.ensures;
    named = c.named_tables.ensures;
    plain = c.answers_without_floats.ensures;
  };
}) rules differ body reply a b

pub returns-clause-not_both : goal.returns-clause-not_both
returns-clause-not_both c rules body reply a b differ = measured_or_faulty (record {
  one_asked = c.a_body_is_one_request_by_a_list.ensures.one_request;
  trees = c.a_text_is_one_document.ensures.texts;
  offsets = c.a_text_is_one_document.ensures.places;
  one_plan = c.alike_requests_are_answered_alike.ensures.one_plan;
  reading = record {
    passes = c.fault_or_reading.ensures.passes;
    once = c.one_reply.ensures;
    named = c.named_tables.ensures;
    plain = c.answers_without_floats.ensures;
  };
}) rules differ body reply a b

pub returns-clause-finished : goal.returns-clause-finished
returns-clause-finished c = answered record {
  one_asked = c.a_body_is_one_request_by_a_list.ensures.one_request;
  trees = c.a_text_is_one_document.ensures.texts;
  offsets = c.a_text_is_one_document.ensures.places;
  one_plan = c.alike_requests_are_answered_alike.ensures.one_plan;
  reading = record {
    passes = c.fault_or_reading.ensures.passes;
    once = c.one_reply.ensures;
    named = c.named_tables.ensures;
    plain = c.answers_without_floats.ensures;
  };
}
