use Rattle.account_commands.proofs.ReplayLines.{clients_line, replay_line}
use Rattle.account_commands.proofs.replay_laws.refusals_of_replays_are_one_line.Goals as goal

pub returns-clause-replay : goal.returns-clause-replay
returns-clause-replay c = replay_line c.refusals_of_files_are_one_line.ensures.schema

pub returns-clause-clients : goal.returns-clause-clients
returns-clause-clients c = clients_line c.refusals_of_files_are_one_line.ensures.schema
