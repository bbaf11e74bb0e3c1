-- A body is read in one way, and requests that ask the same have one verdict.
use Rattle.gateway_core.proofs.BegunRequests.{priced}
use Rattle.gateway_core.proofs.OneOutcome.{one_price, priced_or_unfit, one_reason, one_answer}
use Rattle.gateway_core.proofs.laws.a_body_comes_to_one_thing.Goals as goal

pub returns-clause-promised : goal.returns-clause-promised
returns-clause-promised c = priced

pub returns-clause-one_price : goal.returns-clause-one_price
returns-clause-one_price c = one_price record {
  asked_or_unread = c.a_body_is_one_request_by_a_list.ensures.not_both;
  one_asked = c.a_body_is_one_request_by_a_list.ensures.one_request;
  one_unread_for = c.a_body_is_one_request_by_a_list.ensures.one_reason;
  trees = c.a_text_is_one_document.ensures.texts;
  offsets = c.a_text_is_one_document.ensures.places;
  read_or_not = c.a_text_is_a_document_or_has_one_fault.ensures.not_both;
  one_reading = c.a_text_is_a_document_or_has_one_fault.ensures.one_fault;
  documents = c.a_text_is_a_document_or_has_one_fault.ensures.documents;
  affordable_or_refused = c.a_request_has_one_verdict.ensures.affordable_or_refused;
  refused = c.alike_requests_are_answered_alike.ensures.refused;
  one_plan = c.alike_requests_are_answered_alike.ensures.one_plan;
  counting = record { of_operations = c.operations_planned_well.ensures.bound; of_plans = c.greatest_is_bound.ensures };
  one_refusal = c.alike_requests_have_one_verdict.ensures.one_refusal;
  one_class = c.equal_trees_have_one_class.ensures;
  one_local_answer = c.alike_local_requests_have_one_verdict.ensures.one_answer;
  one_local_refusal = c.alike_local_requests_have_one_verdict.ensures.one_refusal;
  answered_or_refused = c.alike_local_requests_have_one_verdict.ensures.not_both;
}

pub returns-clause-not_both : goal.returns-clause-not_both
returns-clause-not_both c = priced_or_unfit record {
  asked_or_unread = c.a_body_is_one_request_by_a_list.ensures.not_both;
  one_asked = c.a_body_is_one_request_by_a_list.ensures.one_request;
  one_unread_for = c.a_body_is_one_request_by_a_list.ensures.one_reason;
  trees = c.a_text_is_one_document.ensures.texts;
  offsets = c.a_text_is_one_document.ensures.places;
  read_or_not = c.a_text_is_a_document_or_has_one_fault.ensures.not_both;
  one_reading = c.a_text_is_a_document_or_has_one_fault.ensures.one_fault;
  documents = c.a_text_is_a_document_or_has_one_fault.ensures.documents;
  affordable_or_refused = c.a_request_has_one_verdict.ensures.affordable_or_refused;
  refused = c.alike_requests_are_answered_alike.ensures.refused;
  one_plan = c.alike_requests_are_answered_alike.ensures.one_plan;
  counting = record { of_operations = c.operations_planned_well.ensures.bound; of_plans = c.greatest_is_bound.ensures };
  one_refusal = c.alike_requests_have_one_verdict.ensures.one_refusal;
  one_class = c.equal_trees_have_one_class.ensures;
  one_local_answer = c.alike_local_requests_have_one_verdict.ensures.one_answer;
  one_local_refusal = c.alike_local_requests_have_one_verdict.ensures.one_refusal;
  answered_or_refused = c.alike_local_requests_have_one_verdict.ensures.not_both;
}

pub returns-clause-one_reason : goal.returns-clause-one_reason
returns-clause-one_reason c = one_reason record {
  asked_or_unread = c.a_body_is_one_request_by_a_list.ensures.not_both;
  one_asked = c.a_body_is_one_request_by_a_list.ensures.one_request;
  one_unread_for = c.a_body_is_one_request_by_a_list.ensures.one_reason;
  trees = c.a_text_is_one_document.ensures.texts;
  offsets = c.a_text_is_one_document.ensures.places;
  read_or_not = c.a_text_is_a_document_or_has_one_fault.ensures.not_both;
  one_reading = c.a_text_is_a_document_or_has_one_fault.ensures.one_fault;
  documents = c.a_text_is_a_document_or_has_one_fault.ensures.documents;
  affordable_or_refused = c.a_request_has_one_verdict.ensures.affordable_or_refused;
  refused = c.alike_requests_are_answered_alike.ensures.refused;
  one_plan = c.alike_requests_are_answered_alike.ensures.one_plan;
  counting = record { of_operations = c.operations_planned_well.ensures.bound; of_plans = c.greatest_is_bound.ensures };
  one_refusal = c.alike_requests_have_one_verdict.ensures.one_refusal;
  one_class = c.equal_trees_have_one_class.ensures;
  one_local_answer = c.alike_local_requests_have_one_verdict.ensures.one_answer;
  one_local_refusal = c.alike_local_requests_have_one_verdict.ensures.one_refusal;
  answered_or_refused = c.alike_local_requests_have_one_verdict.ensures.not_both;
}

pub returns-clause-local : goal.returns-clause-local
returns-clause-local c = one_answer record {
  asked_or_unread = c.a_body_is_one_request_by_a_list.ensures.not_both;
  one_asked = c.a_body_is_one_request_by_a_list.ensures.one_request;
  one_unread_for = c.a_body_is_one_request_by_a_list.ensures.one_reason;
  trees = c.a_text_is_one_document.ensures.texts;
  offsets = c.a_text_is_one_document.ensures.places;
  read_or_not = c.a_text_is_a_document_or_has_one_fault.ensures.not_both;
  one_reading = c.a_text_is_a_document_or_has_one_fault.ensures.one_fault;
  documents = c.a_text_is_a_document_or_has_one_fault.ensures.documents;
  affordable_or_refused = c.a_request_has_one_verdict.ensures.affordable_or_refused;
  refused = c.alike_requests_are_answered_alike.ensures.refused;
  one_plan = c.alike_requests_are_answered_alike.ensures.one_plan;
  counting = record { of_operations = c.operations_planned_well.ensures.bound; of_plans = c.greatest_is_bound.ensures };
  one_refusal = c.alike_requests_have_one_verdict.ensures.one_refusal;
  one_class = c.equal_trees_have_one_class.ensures;
  one_local_answer = c.alike_local_requests_have_one_verdict.ensures.one_answer;
  one_local_refusal = c.alike_local_requests_have_one_verdict.ensures.one_refusal;
  answered_or_refused = c.alike_local_requests_have_one_verdict.ensures.not_both;
}
