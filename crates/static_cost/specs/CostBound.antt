-- The bound of a plan in both components of the cost, and the fault where it exceeds the cap.
use Rattle.std.specs.Prelude.{◌≡◌, ◌↔◌, ◌⊎◌, ◌≤◌, ℕ, Bool, IsTrue}
use Rattle.cost_num.specs.declared.TheConstants.{CAP}
use Rattle.cost_num.specs.declared.Cost.{Cost}
use Rattle.serde_json.specs.Data.{Data}
use Rattle.response_model.specs.Plan.{Plan}
use Rattle.response_model.specs.Response.{Tree}
use Rattle.response_model.specs.Filled.{filled}
use Rattle.response_model.specs.Cost.{Part, types, fields}
use Rattle.response_model.specs.Bound.{IsSound}
use Rattle.document_reader.specs.declared.trees.Operation.{Operation}
use Rattle.plan_model.specs.SelectedFields.{Setting, holds}
use Rattle.plan_model.specs.Responses.{IsResponseTo, response_cost}
use Rattle.plan_table.specs.TableBounds.{IsCostBound, ExceedsCapIn}
use Rattle.plan_model.specs.Operations.{root_place, root_position, planned_operation, IsOperationBound}
use Rattle.static_cost.specs.declared.too_costly.TooCostly.{TooCostly}

-- Neither component exceeds the cap.
pub record IsWithin (cost : Cost) : Type 0 where
  pub of_types : cost.types ≤ CAP
  pub of_fields : cost.fields ≤ CAP

-- The fault names each component in which some response exceeds the cap and no other, and it names one.
pub record NamesExceedingIn (holds : ℕ → Data → Bool) (plan : Plan) (fault : TooCostly) : Type 0 where
  pub of_types : IsTrue fault.types ↔ ExceedsCapIn holds types plan
  pub of_fields : IsTrue fault.fields ↔ ExceedsCapIn holds fields plan
  pub some : IsTrue fault.types ⊎ IsTrue fault.fields

-- The cost is the bound of what is planned for the operation.
abbrev pub IsPlannedBound : Setting → ℕ → Operation → Cost → Type 0
IsPlannedBound e root o bound = IsCostBound (holds e.schema) (planned_operation e root o) bound

-- Each component is the bound of the operation.
abbrev pub AreOperationBounds : Setting → ℕ → Operation → Cost → Type 0
AreOperationBounds e root o cost = IsOperationBound e types root o cost.types × IsOperationBound e fields root o cost.fields

-- The operation's plan is sound.
abbrev pub HasSoundPlan : Setting → ℕ → Operation → Type 0
HasSoundPlan e root o = IsSound (holds e.schema) (planned_operation e root o)

-- the component of a cost
abbrev pub component : Part → Cost → ℕ
component types cost = cost.types
component fields cost = cost.fields

-- The response answers the operation and keeps its declared sizes, and costs just what the bound says in this part.
abbrev pub Attains : Setting → ℕ → Operation → Part → Cost → Tree → Type 0
Attains e root o part bound t =
    IsResponseTo e (root_place root) (root_position root o) t × (response_cost e part (root_place root) (root_position root o) t ≡ component part bound)

-- the response that is filled for a part of the cost
abbrev pub worst_response : Setting → ℕ → Operation → Part → Tree
worst_response e root o part = filled part (planned_operation e root o)

-- Where the cost is the bound of the operation, within the cap, the response that is filled for a part attains it.
abbrev pub WorstAttains : Setting → ℕ → Operation → Part → Cost → Type 0
WorstAttains e root o part bound = AreOperationBounds e root o bound → IsWithin bound → Attains e root o part bound (worst_response e root o part)
