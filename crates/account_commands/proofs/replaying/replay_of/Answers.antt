use Rattle.account_commands.proofs.Replays.{replay_told}
use Rattle.account_commands.proofs.replaying.replay_of.Goals as goal

pub returns-in-Ok : goal.returns-in-Ok
returns-in-Ok g c = replay_told c.args.asked.now.schema c.args.texts.now c.args.asked.now.undeclared c.args.asked.now.most_work c.in-Ok.end c.replayed.result c.in-Ok.ensures.replayed c.replayed.ensures
