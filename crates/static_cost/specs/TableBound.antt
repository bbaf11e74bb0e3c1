-- The bound of the plans that a table holds.
use Rattle.cost_num.specs.declared.Cost.{Cost}
use Rattle.response_model.specs.Plan.{Plan as PlanTree}
use Rattle.plan_table.specs.declared.table.Plan.{Plan}
use Rattle.plan_table.specs.TableBounds.{holds_in, HoldsSound, IsBoundIn}
use Rattle.static_cost.specs.declared.too_costly.TooCostly.{TooCostly}
use Rattle.static_cost.specs.CostBound.{NamesExceedingIn}

-- The cost is the bound of the plan that the table holds.
abbrev pub IsTableBound : Plan → Cost → Type 0
IsTableBound p cost = (tree : PlanTree) → HoldsSound p tree → IsBoundIn p tree cost

-- The fault names each component in which some response to it exceeds the cap and no other, and it names one.
abbrev pub NamesExceedingOf : Plan → TooCostly → Type 0
NamesExceedingOf p fault = (tree : PlanTree) → HoldsSound p tree → NamesExceedingIn (holds_in p) tree fault
