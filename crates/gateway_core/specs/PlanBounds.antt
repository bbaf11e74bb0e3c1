-- What is measured of a reply to a plan, and the bound of a plan that a grant holds.
use Rattle.std.specs.Prelude.{◌≢◌, ℕ, List}
use Rattle.cost_num.specs.declared.Cost.{Cost}
use Rattle.cost_num.specs.Within.{Within}
use Rattle.response_model.specs.Plan.{Plan as PlanTree}
use Rattle.response_model.specs.Cost.{Part}
use Rattle.plan_table.specs.declared.table.Plan.{Plan}
use Rattle.plan_table.specs.TableBounds.{HoldsSound, IsWithinCap}
use Rattle.response_meter.specs.declared.metered.Metered.{Metered}
use Rattle.response_meter.specs.declared.fault.MeterFault.{MeterFault}
use Rattle.response_meter.specs.declared.fault.MeterFault.TheVariants.{Memory as MeterMemory}
use Rattle.response_meter.specs.Faults.{Tells}
use Rattle.response_meter.specs.Metered.{IsMetered, first_fault_in}
use Rattle.gateway_core.specs.Rules.{greatest}

-- The reply reads as a response to this plan that keeps the declared sizes, and this is measured of it.
abbrev pub IsMeasuredBy : Plan → List ℕ → List ℕ → Metered → Type 0
IsMeasuredBy plan alias reply metered = (tree : PlanTree) → HoldsSound plan tree → IsMetered plan alias tree reply metered

-- This is the first test that the reply doesn't pass; want of memory is none.
abbrev pub IsFaultyBy : Plan → List ℕ → List ℕ → MeterFault → Type 0
IsFaultyBy plan alias reply fault = (fault ≢ MeterMemory) × ((tree : PlanTree) → HoldsSound plan tree → Tells fault (first_fault_in plan alias tree reply))

-- Whatever is measured of a reply is within the bound, and the bound within the cap, as every response is.
pub record Covers (plan : Plan) (bound : Cost) : Type 0 where
  pub replies : (alias reply : List ℕ) (metered : Metered) → IsMeasuredBy plan alias reply metered → Within bound metered.cost
  pub counted : (part : Part) → IsWithinCap plan part
  pub within : Within greatest bound
