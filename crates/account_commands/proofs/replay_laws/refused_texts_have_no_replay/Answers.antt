-- By what each text is, and by its faults.
use Rattle.account_commands.proofs.OneReplay.{not_both, one_refusal}
use Rattle.account_commands.proofs.replay_laws.refused_texts_have_no_replay.Goals as goal

pub returns-clause-not_both : goal.returns-clause-not_both
returns-clause-not_both c = not_both record {
  rules = record {
    checked_or_not = c.a_schema_file_has_one_check.ensures.not_both;
    one_check = c.a_schema_file_has_one_check.ensures.one_refusal;
    served_or_not = c.a_text_has_one_reading.ensures.not_both;
    one_clients = c.a_text_has_one_reading.ensures.one_fault;
  };
  script_or_not = c.a_script_is_of_one_list_of_steps.ensures.no_fault;
  one_script = c.a_script_is_of_one_list_of_steps.ensures.one_fault;
}

pub returns-clause-one_refusal : goal.returns-clause-one_refusal
returns-clause-one_refusal c = one_refusal record {
  rules = record {
    checked_or_not = c.a_schema_file_has_one_check.ensures.not_both;
    one_check = c.a_schema_file_has_one_check.ensures.one_refusal;
    served_or_not = c.a_text_has_one_reading.ensures.not_both;
    one_clients = c.a_text_has_one_reading.ensures.one_fault;
  };
  script_or_not = c.a_script_is_of_one_list_of_steps.ensures.no_fault;
  one_script = c.a_script_is_of_one_list_of_steps.ensures.one_fault;
}
