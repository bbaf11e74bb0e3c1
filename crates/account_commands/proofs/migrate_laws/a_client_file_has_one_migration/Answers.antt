-- By what a text is a client file of.
use Rattle.account_commands.proofs.Migrations.{one_output}
use Rattle.account_commands.proofs.migrate_laws.a_client_file_has_one_migration.Goals as goal

pub returns-clause-one_output : goal.returns-clause-one_output
returns-clause-one_output c text output other = one_output text output other (c.a_text_has_one_reading.ensures.one_window text) (c.a_text_has_one_reading.ensures.same_clients text)

pub returns-clause-not_both : goal.returns-clause-not_both
returns-clause-not_both c text output fault migrates = c.a_text_has_one_reading.ensures.not_both text migrates.seconds migrates.clients fault migrates.read
