use Rattle.gateway_replay.proofs.FreshAccounts.{over_fresh}
use Rattle.gateway_replay.proofs.laws.over_fresh_accounts.Goals as goal

pub returns : goal.returns
returns c = over_fresh
