-- By what texts and their definitions have once.
use Rattle.command_outcomes.proofs.Checks.{not_both, one_refusal, one_data}
use Rattle.command_outcomes.proofs.check_laws.a_schema_file_has_one_check.Goals as goal

pub returns-clause-not_both : goal.returns-clause-not_both
returns-clause-not_both c = not_both record {
  one_text = c.a_text_is_one_schema.ensures.texts;
  no_text_fault = c.a_text_is_a_schema_or_has_one_fault.ensures.not_both;
  one_text_fault = c.a_text_is_a_schema_or_has_one_fault.ensures.one_fault;
  no_test = c.a_text_with_a_schema_has_no_fault.ensures;
  one_test = c.a_text_has_one_fault.ensures;
  one_schema = c.a_text_has_one_schema.ensures;
}

pub returns-clause-one_refusal : goal.returns-clause-one_refusal
returns-clause-one_refusal c = one_refusal record {
  one_text = c.a_text_is_one_schema.ensures.texts;
  no_text_fault = c.a_text_is_a_schema_or_has_one_fault.ensures.not_both;
  one_text_fault = c.a_text_is_a_schema_or_has_one_fault.ensures.one_fault;
  no_test = c.a_text_with_a_schema_has_no_fault.ensures;
  one_test = c.a_text_has_one_fault.ensures;
  one_schema = c.a_text_has_one_schema.ensures;
}

pub returns-clause-one_schema : goal.returns-clause-one_schema
returns-clause-one_schema c = one_data record {
  one_text = c.a_text_is_one_schema.ensures.texts;
  no_text_fault = c.a_text_is_a_schema_or_has_one_fault.ensures.not_both;
  one_text_fault = c.a_text_is_a_schema_or_has_one_fault.ensures.one_fault;
  no_test = c.a_text_with_a_schema_has_no_fault.ensures;
  one_test = c.a_text_has_one_fault.ensures;
  one_schema = c.a_text_has_one_schema.ensures;
}
