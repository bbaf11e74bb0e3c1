use Rattle.account_shared.proofs.Idle.{idle_past}
use Rattle.account_shared.proofs.laws.stays_idle.Goals as goal

pub returns : goal.returns
returns c = idle_past
