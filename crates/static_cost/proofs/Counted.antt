-- Where the bound was found, or isn't told to exceed the cap, no response exceeds it.
use Rattle.std.proofs.Common.{◌≡◌, ◌≤◌, ◌<◌, ℕ, false, true≢false, sym, ◌∙◌, arith}
use Rattle.cost_num.specs.declared.TheConstants.{CAP}
use Rattle.cost_num.specs.declared.Cost.{Cost}
use Rattle.response_model.specs.Cost.{Part, types, fields}
use Rattle.plan_table.specs.declared.table.Plan.{Plan}
use Rattle.static_cost.specs.declared.too_costly.TooCostly.{TooCostly}
use Rattle.static_cost.specs.CostBound.{IsWithin}
use Rattle.static_cost.specs.TableBound.{IsTableBound, NamesExceedingOf}
use Rattle.plan_table.specs.TableBounds.{IsWithinCap}

pub bounded : (p : Plan) (part : Part) (cost : Cost) → IsTableBound p cost → IsWithin cost → IsWithinCap p part
bounded p types cost is within plan of past =
    let most = (is plan of).of_types.upper past.0 past.1 in
    let w = within.of_types in
    let more = past.2 in
    none most w more
  where
    none : {a b : ℕ} → a ≤ b → b ≤ CAP → CAP < a → ⊥
    none x y z = omega arith
bounded p fields cost is within plan of past =
    let most = (is plan of).of_fields.upper past.0 past.1 in
    let w = within.of_fields in
    let more = past.2 in
    none most w more
  where
    none : {a b : ℕ} → a ≤ b → b ≤ CAP → CAP < a → ⊥
    none x y z = omega arith

pub other_named : (p : Plan) (fault : TooCostly) → NamesExceedingOf p fault → (fault.types ≡ false → IsWithinCap p types) × (fault.fields ≡ false → IsWithinCap p fields)
other_named p fault names = (
  λ no plan of past. true≢false (sym ((names plan of).of_types.1 past) ∙ no),
  λ no plan of past. true≢false (sym ((names plan of).of_fields.1 past) ∙ no),
)
