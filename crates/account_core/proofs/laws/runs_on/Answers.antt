use Rattle.account_core.proofs.Runs.{steps-append, steps-stand, steps-legal}
use Rattle.account_core.proofs.laws.runs_on.Goals as goal

pub returns-clause-appends : goal.returns-clause-appends
returns-clause-appends c = steps-append

pub returns-clause-stands : goal.returns-clause-stands
returns-clause-stands c = steps-stand

pub returns-clause-legal : goal.returns-clause-legal
returns-clause-legal c = steps-legal
