use Rattle.plan_model.proofs.PlannedWell.{is_operation_plan, operation_plan_sound, operation_bound}
use Rattle.plan_model.proofs.laws.operations_planned_well.Goals as goal

pub returns-clause-plan : goal.returns-clause-plan
returns-clause-plan c = is_operation_plan

pub returns-clause-sound : goal.returns-clause-sound
returns-clause-sound c = operation_plan_sound

pub returns-clause-bound : goal.returns-clause-bound
returns-clause-bound c = operation_bound
