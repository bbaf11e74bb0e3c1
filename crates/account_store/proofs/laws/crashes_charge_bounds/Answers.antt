use Rattle.account_store.proofs.Settlings.{recovers, keeps_limit}
use Rattle.account_store.proofs.laws.crashes_charge_bounds.Goals as goal

pub returns-clause-follows : goal.returns-clause-follows
returns-clause-follows c limits history client number legal free = (recovers limits history client number legal free).stands

pub returns-clause-closed : goal.returns-clause-closed
returns-clause-closed c limits history client number legal free = (recovers limits history client number legal free).none

pub returns-clause-keeps : goal.returns-clause-keeps
returns-clause-keeps c limits history client number legal free = keeps_limit _ _ _ (recovers limits history client number legal free).stands
