-- By cases on the refusals.
use Rattle.operation_commands.proofs.OnePrice.{one_refusal, not_both}
use Rattle.operation_commands.proofs.price_laws.a_refused_operation_has_no_price.Goals as goal

pub returns-clause-not_both : goal.returns-clause-not_both
returns-clause-not_both c = not_both record {
  reading = record {
    one_schema = c.a_schema_file_has_one_check.ensures.one_schema;
    trees = c.a_text_is_one_document.ensures.texts;
    offsets = c.a_text_is_one_document.ensures.places;
  };
  checked_or_not = c.a_schema_file_has_one_check.ensures.not_both;
  one_check = c.a_schema_file_has_one_check.ensures.one_refusal;
  read_or_not = c.a_text_is_a_document_or_has_one_fault.ensures.not_both;
  one_fault = c.a_text_is_a_document_or_has_one_fault.ensures.one_fault;
  documents = c.a_text_is_a_document_or_has_one_fault.ensures.documents;
  accepted_or_not = c.alike_requests_have_one_verdict.ensures.not_both;
  one_refusal = c.alike_requests_have_one_verdict.ensures.one_refusal;
}

pub returns-clause-one_refusal : goal.returns-clause-one_refusal
returns-clause-one_refusal c = one_refusal record {
  reading = record {
    one_schema = c.a_schema_file_has_one_check.ensures.one_schema;
    trees = c.a_text_is_one_document.ensures.texts;
    offsets = c.a_text_is_one_document.ensures.places;
  };
  checked_or_not = c.a_schema_file_has_one_check.ensures.not_both;
  one_check = c.a_schema_file_has_one_check.ensures.one_refusal;
  read_or_not = c.a_text_is_a_document_or_has_one_fault.ensures.not_both;
  one_fault = c.a_text_is_a_document_or_has_one_fault.ensures.one_fault;
  documents = c.a_text_is_a_document_or_has_one_fault.ensures.documents;
  accepted_or_not = c.alike_requests_have_one_verdict.ensures.not_both;
  one_refusal = c.alike_requests_have_one_verdict.ensures.one_refusal;
}
