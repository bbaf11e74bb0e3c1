use Rattle.std.proofs.Common.{◌≤◌, sym, subst, ◌∙◌}
use Rattle.plan_model.specs.Visits.{level_limit, node_limit}
use Rattle.plan_model.specs.Operations.{root_place, root_position, nodes_visited}
use Rattle.plan_model.proofs.NodeCounts.{planned_counted}
use Rattle.plan_model.proofs.PlannedWell.{is_operation_plan, operation_plan_sound, none_at_fault, within_limit}
use Rattle.plan_table.proofs.TableTrees.{rows_counted}
use Rattle.merged_selections.specs.Building.{setting_for, planned_for}
use Rattle.merged_selections.proofs.laws.what_is_built_is_the_plan.Goals as goal

pub returns-clause-plan : goal.returns-clause-plan
returns-clause-plan c = λ s w k v well. is_operation_plan (setting_for s w k v) k.root.number k.operation.now well

pub returns-clause-sound : goal.returns-clause-sound
returns-clause-sound c = λ s w k v well. operation_plan_sound (setting_for s w k v) k.root.number k.operation.now well

pub returns-clause-rows : goal.returns-clause-rows
returns-clause-rows c = λ s w k v plan planned. rows_counted plan (planned_for s w k v) planned

pub returns-clause-within : goal.returns-clause-within
returns-clause-within c = λ s w k v plan well planned.
    let e = setting_for s w k v in
    subst (λ n. n ≤ node_limit) (sym (rows_counted plan (planned_for s w k v) planned ∙ planned_counted e level_limit (root_place k.root.number) (root_position k.root.number k.operation.now) (none_at_fault node_limit (nodes_visited e k.root.number k.operation.now) well)))
    (within_limit node_limit (nodes_visited e k.root.number k.operation.now) well)
