use Rattle.plan_model.proofs.PlannedWell.{none_at_fault, within_limit}
use Rattle.plan_model.proofs.laws.planned_well_is_faultless.Goals as goal

pub returns-clause-faultless : goal.returns-clause-faultless
returns-clause-faultless c = none_at_fault

pub returns-clause-within : goal.returns-clause-within
returns-clause-within c = within_limit
