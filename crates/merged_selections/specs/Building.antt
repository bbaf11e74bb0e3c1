-- What is planned of an operation that was checked.
use Rattle.std.specs.Prelude.{ℕ, List, [], ◌∷◌, Result}
use Rattle.schema_model.specs.declared.schema.Schema.{Schema}
use Rattle.schema_model.specs.SchemaViews.{schema_data}
use Rattle.cost_directives.specs.declared.weights.Weights.{Weights}
use Rattle.cost_directives.specs.WeightViews.{weights_data}
use Rattle.variable_coercion.specs.declared.variables.Variables.{Variables}
use Rattle.variable_coercion.specs.Calls.{environment}
use Rattle.document_reader.specs.Documents.{SelectionTrees}
use Rattle.document_rules.specs.declared.checking.Checked.{Checked}
use Rattle.document_rules.specs.Parts.{FragmentData}
use Rattle.response_model.specs.Plan.{Plan as PlanTree}
use Rattle.response_model.specs.Bound.{IsSound}
use Rattle.plan_model.specs.SelectedFields.{Setting, holds}
use Rattle.plan_model.specs.Sound.{IsOfSchema}
use Rattle.plan_model.specs.MergingWalk.{IsAcyclic}
use Rattle.plan_model.specs.Shortening.{position_on}
use Rattle.plan_model.specs.Visits.{PlanAnswer, answer_of, node_limit, level_limit, visits, planned}
use Rattle.plan_model.specs.Operations.{setting_of, root_place, operation_answer, planned_operation}
use Rattle.plan_table.specs.declared.table.Plan.{Plan}
use Rattle.plan_table.specs.Tables.{HasRows}
use Rattle.merged_selections.specs.declared.fault.PlanFault.{PlanFault}
use Rattle.merged_selections.specs.Faults.{AnswersPlan}

module _ (schema : Schema) (weights : Weights) (checked : Checked) (variables : Variables) where
  -- what the operation is planned by
  abbrev pub setting_for : Setting
  setting_for = setting_of (schema_data schema) (weights_data weights) (environment variables) checked.document.now.definitions.items checked.operation.now

  -- whether it is planned, or the first fault
  abbrev pub answer_for : PlanAnswer
  answer_for = operation_answer setting_for checked.root.number checked.operation.now

  abbrev pub planned_for : PlanTree
  planned_for = planned_operation setting_for checked.root.number checked.operation.now

  -- The table holds what is planned.
  abbrev pub IsPlanned : Plan → Type 0
  IsPlanned plan = HasRows plan planned_for

  -- What is planned is sound, where the weights are those of the schema and its leaves can be filled.
  abbrev pub IsPlannedSoundly : Type 0
  IsPlannedSoundly = (undeclared : ℕ) → IsOfSchema undeclared setting_for → IsSound (holds setting_for.schema) planned_for

-- ---- selections that are written on a type, beside these fragments

abbrev pub setting_beside : Schema → Weights → Variables → List FragmentData → Setting
setting_beside schema weights variables fragments = record { schema = schema_data schema; weights = weights_data weights; values = environment variables; fragments = fragments }

module _ (e : Setting) (root : ℕ) (selections : SelectionTrees) where
  -- whether they are planned, or the first fault
  abbrev pub answer_on : PlanAnswer
  answer_on = answer_of node_limit (visits e level_limit (root ∷ []) (position_on root selections))

  abbrev pub planned_on : PlanTree
  planned_on = planned e level_limit (root_place root) (position_on root selections)

  -- Where no fragment comes back to itself, the answer is theirs, and the table holds what is planned.
  abbrev pub AnswersSelections : Result Plan PlanFault → Type 0
  AnswersSelections result = IsAcyclic e (position_on root selections) → AnswersPlan (λ plan. HasRows plan planned_on) result answer_on
