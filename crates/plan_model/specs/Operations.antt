-- An operation of a document as it is planned.
use Rattle.std.specs.Prelude.{◌≡◌, ◌↔◌, ◌≤◌, ℕ, List, [], ◌∷◌, map, None, Some}
use Rattle.cost_num.specs.declared.TheConstants.{CAP}
use Rattle.document_reader.specs.declared.trees.Definition.{Definition}
use Rattle.document_reader.specs.declared.trees.Operation.{Operation}
use Rattle.document_reader.specs.Trees.{set_tree}
use Rattle.input_values.specs.coercion.Literals.{Environment}
use Rattle.response_model.specs.Plan.{Plan}
use Rattle.response_model.specs.Cost.{Part}
use Rattle.response_model.specs.Bound.{greatest_cost}
use Rattle.schema_model.specs.SchemaData.{SchemaData}
use Rattle.cost_directives.specs.Weights.{WeightsData}
use Rattle.document_rules.specs.Parts.{fragment_data, fragments_of}
use Rattle.document_rules.specs.Met.{fragments_met}
use Rattle.document_rules.specs.Checking.{reached_by}
use Rattle.plan_model.specs.SelectedFields.{Setting, Place, object_place}
use Rattle.plan_model.specs.Merging.{Position}
use Rattle.plan_model.specs.Plans.{IsPlan}
use Rattle.plan_model.specs.Responses.{IsBoundOf}
use Rattle.plan_model.specs.Visits.{Visit, visits, level_limit, node_limit, PlanAnswer, planned_well, answer_of, planned}

-- Only the fragments that the operation reaches are looked up. Others may come back to themselves.
abbrev pub setting_of : SchemaData → WeightsData → Environment → List Definition → Operation → Setting
setting_of s w values ds o = record { schema = s; weights = w; values = values; fragments = map fragment_data (fragments_met (fragments_of ds) (reached_by ds o)) }

-- its selections are written on the root type, and nothing is handed down to them
abbrev pub root_position : ℕ → Operation → Position
root_position root o = record { selections = (Some root, set_tree o.selections.items) ∷ []; handed = None }

abbrev pub root_place : ℕ → Place
root_place root = object_place (root ∷ [])

abbrev pub nodes_visited : Setting → ℕ → Operation → List Visit
nodes_visited e root o = visits e level_limit (root ∷ []) (root_position root o)

-- whether it is planned, or the first fault
abbrev pub operation_answer : Setting → ℕ → Operation → PlanAnswer
operation_answer e root o = answer_of node_limit (nodes_visited e root o)

-- no node has a fault, and there are no more than the limit
abbrev pub IsPlannedWell : Setting → ℕ → Operation → Type 0
IsPlannedWell e root o = operation_answer e root o ≡ planned_well

abbrev pub planned_operation : Setting → ℕ → Operation → Plan
planned_operation e root o = planned e level_limit (root_place root) (root_position root o)

abbrev pub IsOperationPlan : Setting → ℕ → Operation → Plan → Type 0
IsOperationPlan e root o plan = IsPlan e (root_place root) (root_position root o) plan

abbrev pub IsOperationBound : Setting → Part → ℕ → Operation → ℕ → Type 0
IsOperationBound e part root o bound = IsBoundOf e part (root_place root) (root_position root o) bound

-- A number within the cap is the operation's bound exactly where it is the greatest cost of what is planned.
abbrev pub HasGreatestBounds : Setting → ℕ → Operation → Type 0
HasGreatestBounds e root o = (part : Part) (n : ℕ) → n ≤ CAP → IsOperationBound e part root o n ↔ (greatest_cost part (planned_operation e root o) ≡ n)
