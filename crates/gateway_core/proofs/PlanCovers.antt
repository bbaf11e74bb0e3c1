-- What is accepted covers its replies: whatever is measured of one is within the bound.
use Rattle.std.proofs.Common.{◌≡◌, ◌≤◌, ◌↔◌, ℕ, Bool, Option, None, Some, sym, subst, arith}
use Rattle.cost_num.specs.declared.TheConstants.{CAP}
use Rattle.cost_num.specs.declared.Cost.{Cost}
use Rattle.serde_json.specs.Data.{Data}
use Rattle.document_reader.specs.declared.trees.Operation.{Operation}
use Rattle.schema_model.specs.SchemaViews.{schema_data}
use Rattle.response_model.specs.Plan.{Plan as PlanTree}
use Rattle.response_model.specs.Response.{Tree}
use Rattle.response_model.specs.Cost.{Part, types, fields}
use Rattle.response_model.specs.Bound.{IsSound, IsBound, greatest_cost}
use Rattle.plan_model.specs.SelectedFields.{Setting, holds}
use Rattle.plan_model.specs.Sound.{IsOfSchema}
use Rattle.plan_model.specs.Visits.{planned_well}
use Rattle.plan_model.specs.Operations.{operation_answer, planned_operation, IsOperationBound}
use Rattle.plan_table.specs.declared.table.Plan.{Plan}
use Rattle.plan_table.specs.TableBounds.{holds_in, HoldsSound, IsWithinCap}
use Rattle.local_introspection.specs.PassedOn.{RequestData, setting, plan_tree, IsBoundFor, IsAccepted}
use Rattle.response_meter.specs.Reply.{IsResponseOrNone, reply_cost}
use Rattle.gateway_core.specs.Rules.{HasWeights}
use Rattle.gateway_core.specs.PlanBounds.{Covers}

-- the greatest cost is the bound
pub record Counting : Type 0 where
  pub of_operations : (e : Setting) (root : ℕ) (o : Operation) → operation_answer e root o ≡ planned_well → (undeclared : ℕ) → IsOfSchema undeclared e → (part : Part) (n : ℕ) → n ≤ CAP
      → IsOperationBound e part root o n ↔ (greatest_cost part (planned_operation e root o) ≡ n)
  pub of_plans : (holds : ℕ → Data → Bool) (part : Part) (plan : PlanTree) → IsSound holds plan → IsBound holds part plan (greatest_cost part plan)

reply_at_most : (holds : ℕ → Data → Bool) (part : Part) (tree : PlanTree) (content : Option Tree) (n : ℕ) → IsBound holds part tree n → IsResponseOrNone holds tree content → reply_cost part tree content ≤ n
reply_at_most holds part tree None n bound response = omega arith
reply_at_most holds part tree (Some t) n bound response = bound.upper t response

module _ (laws : Counting) (r : RequestData) (plan : Plan) (bound : Cost) (weighed : HasWeights r.schema r.weights) (accepted : IsAccepted r plan bound) (same : schema_data plan.schema.now ≡ r.schema) where
  abbrev tree : PlanTree
  tree = plan_tree r accepted.is_planned.prepared

  sound : HoldsSound plan tree
  sound = (accepted.is_planned.rows, subst (λ s. IsSound (holds s) tree) (sym same) accepted.is_sound)

  is_bound : (part : Part) (n : ℕ) → n ≤ CAP → IsBoundFor r accepted.is_planned.prepared part n → IsBound (holds_in plan) part tree n
  is_bound part n low b =
      let p = accepted.is_planned.prepared in
      let of_schema : IsOfSchema weighed.0.0 (setting r p) = record { weights = weighed.0.1; fills = weighed.1 } in
      let greatest = (laws.of_operations (setting r p) p.root p.operation accepted.is_planned.well weighed.0.0 of_schema part n low).0 b in
      subst (IsBound (holds_in plan) part tree) greatest (laws.of_plans (holds_in plan) part tree sound.1)

  pub covers : ((part : Part) → IsWithinCap plan part) → Covers plan bound
  covers counted =
      let b = accepted.has_bound in
      record {
        replies = λ alias reply metered measured.
            let m = measured tree sound in
            record {
              types = subst (λ n. n ≤ bound.types) (sym m.types_cost) (reply_at_most (holds_in plan) types tree m.content bound.types (is_bound types bound.types b.types_within b.of_types) m.is_response);
              fields = subst (λ n. n ≤ bound.fields) (sym m.fields_cost) (reply_at_most (holds_in plan) fields tree m.content bound.fields (is_bound fields bound.fields b.fields_within b.of_fields) m.is_response);
            };
        counted = counted;
        within = record { types = b.types_within; fields = b.fields_within };
      }
