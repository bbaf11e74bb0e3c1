-- The bound of an accepted request is the price of its plan's table.
use Rattle.std.proofs.Common.{◌≡◌, ℕ, sym, subst}
use Rattle.cost_num.specs.declared.Cost.{Cost}
use Rattle.document_reader.specs.declared.trees.Operation.{Operation}
use Rattle.response_model.specs.Bound.{IsSound}
use Rattle.schema_model.specs.SchemaViews.{schema_data}
use Rattle.plan_model.specs.SelectedFields.{Setting, holds}
use Rattle.plan_model.specs.Operations.{IsPlannedWell}
use Rattle.plan_model.specs.Sound.{IsOfSchema as IsSettingOf}
use Rattle.plan_table.specs.declared.table.Plan.{Plan}
use Rattle.plan_table.specs.TableBounds.{IsCostBound}
use Rattle.static_cost.specs.CostBound.{IsWithin, IsPlannedBound, AreOperationBounds}
use Rattle.cost_tables.specs.Tables.{IsPriceOf}
use Rattle.acceptance.specs.Requests.{RequestData, IsOfSchema, setting, plan_tree}
use Rattle.acceptance.specs.Bounds.{IsAccepted}

-- Where the bound of an operation is that of its plan.
pub price_of_plan : ((e : Setting) (root undeclared : ℕ) (o : Operation) (bound : Cost) → IsPlannedWell e root o → IsSettingOf undeclared e → AreOperationBounds e root o bound → IsWithin bound → IsPlannedBound e root o bound)
    → (r : RequestData) (plan : Plan) (price : Cost) → IsOfSchema r → IsAccepted r plan price → schema_data plan.schema.now ≡ r.schema → IsPriceOf plan price
price_of_plan of_plan r plan price of is same =
    let p = is.is_planned.prepared in
    let within : IsWithin price = record { of_types = is.has_bound.types_within; of_fields = is.has_bound.fields_within } in
    let bound = of_plan (setting r p) p.root of.0.0 p.operation price is.is_planned.well (record { weights = of.0.1; fills = of.1 }) (is.has_bound.of_types, is.has_bound.of_fields) within in
    (plan_tree r p, (is.is_planned.rows, subst (λ s. IsSound (holds s) (plan_tree r p)) (sym same) is.is_sound), subst (λ s. IsCostBound (holds s) (plan_tree r p) price) (sym same) bound, within)
