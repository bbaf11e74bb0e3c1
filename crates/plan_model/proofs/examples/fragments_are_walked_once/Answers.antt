use Rattle.plan_model.proofs.Computed.{listed_twice, walked_once}
use Rattle.plan_model.proofs.examples.fragments_are_walked_once.Goals as goal

pub returns-clause-listed : goal.returns-clause-listed
returns-clause-listed c = listed_twice

pub returns-clause-walked : goal.returns-clause-walked
returns-clause-walked c = walked_once
