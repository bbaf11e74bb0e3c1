use Rattle.std.proofs.Common.{[], refl}
use Rattle.account_store.specs.Steps.{no_rows, stepped_by}
use Rattle.account_store.specs.Histories.{rows_after, steps_on}
use Rattle.account_store.proofs.SameRows.{same_then}
use Rattle.account_store.proofs.CallSteps.{all_steps, none_legal}
use Rattle.account_store.proofs.Numberings.{calls_numbered}
use Rattle.account_store.proofs.laws.numbers_find_grants.Goals as goal

pub returns-clause-numbered : goal.returns-clause-numbered
returns-clause-numbered c limits history next rise = calls_numbered limits [] history no_rows refl tt (none_legal limits) next rise

pub returns-clause-found : goal.returns-clause-found
returns-clause-found c limits history found next rise comes =
    let steps = steps_on limits [] history in
    same_then (stepped_by no_rows found) (stepped_by no_rows steps) (rows_after limits history)
    (comes (calls_numbered limits [] history no_rows refl tt (none_legal limits) next rise)) (all_steps limits [] history (none_legal limits) next)
