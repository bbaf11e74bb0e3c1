use Rattle.gateway_replay.proofs.FreshAccounts.{fresh_idle}
use Rattle.gateway_replay.proofs.laws.fresh_accounts_are_idle.Goals as goal

pub returns : goal.returns
returns c = fresh_idle
