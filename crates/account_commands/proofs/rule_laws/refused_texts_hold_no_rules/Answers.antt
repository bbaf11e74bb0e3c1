-- By what each text is, and by its faults.
use Rattle.account_commands.proofs.OneRules.{held_or_refused, one_rules}
use Rattle.account_commands.proofs.rule_laws.refused_texts_hold_no_rules.Goals as goal

pub returns-clause-not_both : goal.returns-clause-not_both
returns-clause-not_both c = held_or_refused record {
  checked_or_not = c.a_schema_file_has_one_check.ensures.not_both;
  one_check = c.a_schema_file_has_one_check.ensures.one_refusal;
  served_or_not = c.a_text_has_one_reading.ensures.not_both;
  one_clients = c.a_text_has_one_reading.ensures.one_fault;
}

pub returns-clause-one_refusal : goal.returns-clause-one_refusal
returns-clause-one_refusal c = one_rules record {
  checked_or_not = c.a_schema_file_has_one_check.ensures.not_both;
  one_check = c.a_schema_file_has_one_check.ensures.one_refusal;
  served_or_not = c.a_text_has_one_reading.ensures.not_both;
  one_clients = c.a_text_has_one_reading.ensures.one_fault;
}
