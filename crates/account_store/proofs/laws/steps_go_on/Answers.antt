use Rattle.account_store.proofs.CallSteps.{steps_of_both}
use Rattle.account_store.proofs.laws.steps_go_on.Goals as goal

pub returns : goal.returns
returns c = steps_of_both
