-- What a reply is measured as is within the cap.
use Rattle.std.proofs.Common.{◌≡◌, ◌≤◌, inl, inr, ℕ, List, Option, None, Some, sym, subst, arith}
use Rattle.std.proofs.lemmas.Bool.{cases_lt}
use Rattle.cost_num.specs.declared.TheConstants.{CAP}
use Rattle.cost_num.specs.declared.Cost.{Cost}
use Rattle.schema_model.specs.SchemaViews.{schema_data}
use Rattle.response_model.specs.Bound.{IsSound}
use Rattle.plan_model.specs.SelectedFields.{holds}
use Rattle.command_words.specs.declared.command.Asked.{Asked}
use Rattle.acceptance.specs.Requests.{plan_tree}
use Rattle.acceptance.specs.Bounds.{IsAccepted}
use Rattle.operation_commands.specs.declared.asking.Inputs.{Inputs}
use Rattle.operation_commands.specs.Asked.{request_in}
use Rattle.response_model.specs.Plan.{Plan as PlanTree}
use Rattle.response_model.specs.Response.{Tree}
use Rattle.response_model.specs.Cost.{Part, types, fields}
use Rattle.plan_table.specs.declared.table.Plan.{Plan}
use Rattle.plan_table.specs.TableBounds.{holds_in, HoldsSound, IsWithinCap}
use Rattle.response_meter.specs.Reply.{IsResponseOrNone, reply_cost}
use Rattle.response_meter.specs.declared.metered.Metered.{Metered}
use Rattle.response_meter.specs.Metered.{IsMetered}

reply_within : (p : Plan) (part : Part) (tree : PlanTree) (content : Option Tree) → HoldsSound p tree → IsWithinCap p part → IsResponseOrNone (holds_in p) tree content → reply_cost part tree content ≤ CAP
reply_within p part tree None held counted response = omega (arith)
reply_within p part tree (Some t) held counted response = elim (cases_lt CAP (reply_cost part tree (Some t))) [
  | inl exceeds ↦ absurd (counted tree held (t, response, exceeds))
  | inr within ↦ within
]

module _ (p : Plan) (alias bytes : List ℕ) (metered : Metered) (tree : PlanTree) (held : HoldsSound p tree) (counted : (part : Part) → IsWithinCap p part) (m : IsMetered p alias tree bytes metered) where
  pub types_within : metered.cost.types ≤ CAP
  types_within = subst (λ n. n ≤ CAP) (sym m.types_cost) (reply_within p types tree m.content held (counted types) m.is_response)

  pub fields_within : metered.cost.fields ≤ CAP
  fields_within = subst (λ n. n ≤ CAP) (sym m.fields_cost) (reply_within p fields tree m.content held (counted fields) m.is_response)

-- the plan of an operation that is accepted holds its tree, which is sound
pub sound_in : (asked : Asked) (inputs : Inputs) (plan : Plan) (bound : Cost) (accepted : IsAccepted (request_in asked inputs) plan bound) → plan.schema.now ≡ inputs.weighed.schema
    → HoldsSound plan (plan_tree (request_in asked inputs) accepted.is_planned.prepared)
sound_in asked inputs plan bound accepted of_schema =
    (accepted.is_planned.rows, subst (λ s. IsSound (holds (schema_data s)) (plan_tree (request_in asked inputs) accepted.is_planned.prepared)) (sym of_schema) accepted.is_sound)
