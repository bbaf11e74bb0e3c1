-- What the responses to the plan that a table holds cost at most.
use Rattle.std.specs.Prelude.{ℕ, Bool}
use Rattle.cost_num.specs.declared.TheConstants.{CAP}
use Rattle.cost_num.specs.declared.Cost.{Cost}
use Rattle.serde_json.specs.Data.{Data}
use Rattle.response_model.specs.Plan.{Plan as PlanTree}
use Rattle.response_model.specs.Cost.{Part, types, fields}
use Rattle.response_model.specs.Bound.{IsBound, IsSound, Exceeds}
use Rattle.plan_model.specs.SelectedFields.{holds}
use Rattle.plan_table.specs.declared.table.Plan.{Plan}
use Rattle.plan_table.specs.Tables.{HasRows, setting_in}

-- The cost is the bound: each component is the greatest that a response has whose lists keep their declared sizes.
pub record IsCostBound (holds : ℕ → Data → Bool) (plan : PlanTree) (bound : Cost) : Type 0 where
  pub of_types : IsBound holds types plan bound.types
  pub of_fields : IsBound holds fields plan bound.fields

-- Some response costs more than the cap in this part of the cost.
abbrev pub ExceedsCapIn : (ℕ → Data → Bool) → Part → PlanTree → Type 0
ExceedsCapIn holds part plan = Exceeds holds part plan CAP

-- ---- of a table

-- what the leaves of the plan's schema hold
abbrev pub holds_in : Plan → ℕ → Data → Bool
holds_in p = holds (setting_in p).schema

-- The table holds this plan, and it is sound.
abbrev pub HoldsSound : Plan → PlanTree → Type 0
HoldsSound p tree = HasRows p tree × IsSound (holds_in p) tree

-- The cost is the bound of this plan, where the table holds it.
abbrev pub IsBoundIn : Plan → PlanTree → Cost → Type 0
IsBoundIn p tree cost = IsCostBound (holds_in p) tree cost

-- No response to the plan that the table holds costs more than the cap in this part.
abbrev pub IsWithinCap : Plan → Part → Type 0
IsWithinCap p part = (plan : PlanTree) → HoldsSound p plan → ExceedsCapIn (holds_in p) part plan → ⊥
