use Rattle.account_core.specs.History.{grants_by}
use Rattle.account_core.specs.Sums.{open_grants}
use Rattle.account_store.proofs.Recoveries.{grants_of, settling_steps, recovery_next, recovery_account}
use Rattle.account_store.proofs.laws.recoveries_are_calls.Goals as goal

pub returns-clause-next : goal.returns-clause-next
returns-clause-next c = recovery_next

pub returns-clause-steps : goal.returns-clause-steps
returns-clause-steps c limits history client number = settling_steps limits history client number (grants_by client (open_grants history)) (grants_of client (open_grants history))

pub returns-clause-account : goal.returns-clause-account
returns-clause-account c = recovery_account
