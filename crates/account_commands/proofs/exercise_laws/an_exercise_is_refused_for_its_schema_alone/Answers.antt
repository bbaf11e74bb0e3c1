-- The texts are read, and what is read has no fault.
use Rattle.std.specs.Prelude.{[], ◌∷◌}
use Rattle.account_commands.proofs.ExerciseScripts.{exercise_script}
use Rattle.account_commands.proofs.ExerciseClients.{the_client, exercise_clients}
use Rattle.account_commands.proofs.Exercises.{schema_alone}
use Rattle.account_commands.proofs.exercise_laws.an_exercise_is_refused_for_its_schema_alone.Goals as goal

pub returns-clause-clients : goal.returns-clause-clients
returns-clause-clients c = (60, the_client ∷ [], exercise_clients)

pub returns-clause-script : goal.returns-clause-script
returns-clause-script c = exercise_script

pub returns-clause-schema_alone : goal.returns-clause-schema_alone
returns-clause-schema_alone c = schema_alone c.a_text_has_one_reading.ensures.not_both c.a_script_is_of_one_list_of_steps.ensures.no_fault
