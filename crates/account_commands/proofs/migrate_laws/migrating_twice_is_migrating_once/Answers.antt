-- What is written is read as what it was written for.
use Rattle.account_commands.proofs.Migrations.{same_file, same_output}
use Rattle.account_commands.proofs.migrate_laws.migrating_twice_is_migrating_once.Goals as goal

pub returns-clause-same_file : goal.returns-clause-same_file
returns-clause-same_file c = same_file record {
  one_window = c.a_text_has_one_reading.ensures.one_window;
  same_clients = c.a_text_has_one_reading.ensures.same_clients;
  not_both = c.a_text_has_one_reading.ensures.not_both;
  served = c.what_may_be_served_has_a_file.ensures.served;
  file_read = c.what_may_be_served_has_a_file.ensures.written;
}

pub returns-clause-same_output : goal.returns-clause-same_output
returns-clause-same_output c = same_output record {
  one_window = c.a_text_has_one_reading.ensures.one_window;
  same_clients = c.a_text_has_one_reading.ensures.same_clients;
  not_both = c.a_text_has_one_reading.ensures.not_both;
  served = c.what_may_be_served_has_a_file.ensures.served;
  file_read = c.what_may_be_served_has_a_file.ensures.written;
}
