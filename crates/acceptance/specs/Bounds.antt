-- The bound of a request's operation, and when it is too costly.
use Rattle.std.specs.Prelude.{◌≡◌, ◌≤◌, ◌<◌, ◌⊎◌, ◌↔◌, ℕ, IsTrue}
use Rattle.cost_num.specs.declared.TheConstants.{CAP}
use Rattle.cost_num.specs.declared.Cost.{Cost}
use Rattle.response_model.specs.Response.{Tree}
use Rattle.response_model.specs.Cost.{Part, types, fields}
use Rattle.response_model.specs.Bound.{IsSound}
use Rattle.plan_model.specs.SelectedFields.{holds}
use Rattle.plan_model.specs.Responses.{IsResponseTo, response_cost}
use Rattle.plan_model.specs.Visits.{planned_well}
use Rattle.plan_model.specs.Operations.{root_place, root_position, IsOperationBound}
use Rattle.static_cost.specs.PassedOn.{Plan, HasRows}
use Rattle.static_cost.specs.declared.too_costly.TooCostly.{TooCostly}
use Rattle.acceptance.specs.Requests.{RequestData, Prepared, setting, plan_answer, plan_tree}

module _ (r : RequestData) (p : Prepared r) where
  -- This is the greatest cost of a response.
  abbrev pub IsBoundFor : Part → ℕ → Type 0
  IsBoundFor part n = IsOperationBound (setting r p) part p.root p.operation n

  -- Some response costs more than the cap.
  abbrev pub ExceedsCap : Part → Type 0
  ExceedsCap part = (t : Tree) × IsResponseTo (setting r p) (root_place p.root) (root_position p.root p.operation) t
      × (CAP < response_cost (setting r p) part (root_place p.root) (root_position p.root p.operation) t)

  -- The fault names the parts of the cost in which some response costs more than the cap, and no other; it names one.
  pub record NamesExceeding (fault : TooCostly) : Type 0 where
    pub of_types : IsTrue fault.types ↔ ExceedsCap types
    pub of_fields : IsTrue fault.fields ↔ ExceedsCap fields
    pub some : IsTrue fault.types ⊎ IsTrue fault.fields

-- The plan holds what is planned of the operation.
pub record IsPlanned (r : RequestData) (plan : Plan) : Type 0 where
  pub prepared : Prepared r
  pub well : plan_answer r prepared ≡ planned_well
  pub rows : HasRows plan (plan_tree r prepared)

-- The cost is the bound of the operation, in both parts, and within the cap.
pub record HasBound (r : RequestData) (p : Prepared r) (cost : Cost) : Type 0 where
  pub of_types : IsBoundFor r p types cost.types
  pub of_fields : IsBoundFor r p fields cost.fields
  pub types_within : cost.types ≤ CAP
  pub fields_within : cost.fields ≤ CAP

-- The operation is planned well, and this is its bound, within the cap. So the request is accepted, if there is memory for it.
abbrev pub IsAffordable : RequestData → Cost → Type 0
IsAffordable r cost = (p : Prepared r) × (plan_answer r p ≡ planned_well) × HasBound r p cost

-- A request is accepted with this plan and this bound where its operation is planned well, and no response costs more than the cap.
-- The plan is sound.
pub record IsAccepted (r : RequestData) (plan : Plan) (bound : Cost) : Type 0 where
  pub is_planned : IsPlanned r plan
  pub is_sound : IsSound (holds r.schema) (plan_tree r is_planned.prepared)
  pub has_bound : HasBound r is_planned.prepared bound
