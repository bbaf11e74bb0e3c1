-- What becomes of a request becomes of each that asks the same.
use Rattle.std.proofs.Common.{◌≡◌, ◌<◌, ◌∙◌, ℕ, [], ◌∷◌, map, refl, sym, ap, ap₂, subst}
use Rattle.std.specs.Prelude.{◌↔◌, IsTrue}
use Rattle.cost_num.specs.declared.TheConstants.{CAP}
use Rattle.cost_num.specs.declared.Cost.{Cost}
use Rattle.response_model.specs.Plan.{Plan as PlanTree}
use Rattle.response_model.specs.Response.{Tree}
use Rattle.response_model.specs.Cost.{Part, types, fields}
use Rattle.response_model.specs.Bound.{IsSound}
use Rattle.document_reader.specs.declared.trees.Operation.{Operation}
use Rattle.document_reader.specs.Picking.{picked}
use Rattle.document_rules.specs.Sites.{type_of_kind}
use Rattle.document_rules.specs.Checking.{first_broken}
use Rattle.variable_coercion.specs.Variables.{values_by_name, variables_answer}
use Rattle.plan_model.specs.SelectedFields.{Setting, holds}
use Rattle.plan_model.specs.Merging.{Position}
use Rattle.plan_model.specs.Responses.{IsBoundOf, IsResponseTo, response_cost}
use Rattle.plan_model.specs.Visits.{visits, level_limit, node_limit, PlanAnswer, answer_of, planned}
use Rattle.plan_model.specs.Operations.{setting_of, root_position, root_place}
use Rattle.static_cost.specs.PassedOn.{Plan, HasRows}
use Rattle.acceptance.specs.declared.fault.Refusal.{Refusal}
use Rattle.acceptance.specs.declared.fault.Refusal.TheVariants.{Document, Pick, Rule, Variable, Plan as NoPlan, Bound}
use Rattle.acceptance.specs.Requests.{RequestData, AsksFor, KeepsRules, Prepared, setting, plan_tree}
use Rattle.acceptance.specs.Bounds.{IsAccepted}
use Rattle.acceptance.specs.Refusals.{NamesBreach, NamesVariable, NamesNode, IsRefusedFor}
use Rattle.acceptance.specs.AskAlike.{AskAlike}
use Rattle.acceptance.proofs.AlikeDocuments.{seen_in, seen_together, same_pick, operation_alike}
use Rattle.acceptance.proofs.AlikeOperations.{AreAlike, parts_alike, broken_alike, values_alike, setting_alike, position_alike}
use Rattle.acceptance.proofs.OneVerdict.{moved, not_both, one_bound, one_refusal}

-- ---- the operation that is asked for

module _ (r q : RequestData) (alike : AskAlike r q) where
  documents_alike : map seen_in r.document ≡ map seen_in q.document
  documents_alike = seen_together r.document q.document alike.trees alike.offsets

  pick_alike : picked r.name r.document ≡ picked q.name q.document
  pick_alike = ap (λ name. picked name r.document) alike.name ∙ same_pick q.name r.document q.document alike.trees

  asked_alike : (o : Operation) → AsksFor r o → (p : Operation) × AsksFor q p × AreAlike o p
  asked_alike o asks =
      let found = operation_alike r.document q.document asks.0 o documents_alike asks.2 in
      (found.0, (asks.0, sym pick_alike ∙ asks.1, found.1), parts_alike o found.0 found.2)

  breach_alike : (o p : Operation) → AreAlike o p → first_broken r.schema r.document o ≡ first_broken q.schema q.document p
  breach_alike o p same = ap (λ s. first_broken s r.document o) alike.schema ∙ broken_alike q.schema r.document q.document o p documents_alike alike.trees same

  pub kept_alike : (o : Operation) → KeepsRules r o → (p : Operation) × KeepsRules q p × AreAlike o p
  kept_alike o keeps =
      let asked = asked_alike o keeps.0 in
      (asked.0, (asked.1, sym (breach_alike o asked.0 asked.2) ∙ keeps.1), asked.2)

  pub answer_alike : (o p : Operation) → AreAlike o p → variables_answer r.schema o.variables.items r.given ≡ variables_answer q.schema p.variables.items q.given
  answer_alike o p same = ap₂ (λ s given. variables_answer s o.variables.items given) alike.schema alike.given ∙ values_alike q.schema q.given o p same

-- ---- what is planned

-- By what an operation is planned: the setting, the type on which its selections are written, and these.
pub record Planning : Type 0 where
  pub setting : Setting
  pub root : ℕ
  pub position : Position

abbrev pub planning : (r : RequestData) → Prepared r → Planning
planning r p = record { setting = setting r p; root = p.root; position = root_position p.root p.operation }

abbrev answer_by : Planning → PlanAnswer
answer_by x = answer_of node_limit (visits x.setting level_limit (x.root ∷ []) x.position)

abbrev tree_by : Planning → PlanTree
tree_by x = planned x.setting level_limit (root_place x.root) x.position

abbrev IsBoundBy : Part → ℕ → Planning → Type 0
IsBoundBy part n x = IsBoundOf x.setting part (root_place x.root) x.position n

abbrev ExceedsBy : Part → Planning → Type 0
ExceedsBy part x = (t : Tree) × IsResponseTo x.setting (root_place x.root) x.position t × (CAP < response_cost x.setting part (root_place x.root) x.position t)

module _ (r q : RequestData) (alike : AskAlike r q) (p : Prepared r) where
  abbrev pub other : Prepared q
  other =
      let kept = kept_alike r q alike p.operation p.keeps in
      record {
        operation = kept.0;
        root = p.root;
        values = p.values;
        keeps = kept.1;
        on_root = sym (ap₂ type_of_kind alike.schema kept.2.kind) ∙ p.on_root;
        are_values = sym (answer_alike r q alike p.operation kept.0 kept.2) ∙ p.are_values;
      }

  pub planned_alike : planning r p ≡ planning q other
  planned_alike =
      let kept = kept_alike r q alike p.operation p.keeps in
      ap₂ (λ e position. record { setting = e; root = p.root; position = position })
      (ap₂ (λ s w. setting_of s w (values_by_name p.values) r.document p.operation) alike.schema alike.weights
      ∙ setting_alike q.schema q.weights (values_by_name p.values) r.document q.document p.operation kept.0 alike.trees kept.2)
      (position_alike p.root p.operation kept.0 kept.2)

pub one_plan : (r q : RequestData) (p : Prepared r) (o : Prepared q) → AskAlike r q → plan_tree r p ≡ plan_tree q o
one_plan r q p o alike = ap tree_by (planned_alike r q alike p) ∙ moved q (λ operation root values.
    plan_tree q (other r q alike p) ≡ tree_by record { setting = setting_of q.schema q.weights (values_by_name values) q.document operation; root = root; position = root_position root operation }) (other r q alike p) o refl

-- ---- accepted or refused

pub accepted_alike : (r q : RequestData) (plan : Plan) (bound : Cost) → AskAlike r q → IsAccepted r plan bound → IsAccepted q plan bound
accepted_alike r q plan bound alike accepted =
    let p = accepted.is_planned.prepared in
    let same = planned_alike r q alike p in
    record {
      is_planned = record {
        prepared = other r q alike p;
        well = sym (ap answer_by same) ∙ accepted.is_planned.well;
        rows = subst (λ x. HasRows plan (tree_by x)) same accepted.is_planned.rows;
      };
      is_sound = subst (λ x. IsSound (holds x.setting.schema) (tree_by x)) same accepted.is_sound;
      has_bound = record {
        of_types = subst (IsBoundBy types bound.types) same accepted.has_bound.of_types;
        of_fields = subst (IsBoundBy fields bound.fields) same accepted.has_bound.of_fields;
        types_within = accepted.has_bound.types_within;
        fields_within = accepted.has_bound.fields_within;
      };
    }

pub refused_alike : (r q : RequestData) (refusal : Refusal) → AskAlike r q → IsRefusedFor r refusal → IsRefusedFor q refusal
refused_alike r q (Document fault) alike refused = refused
refused_alike r q (Pick fault) alike refused = sym (pick_alike r q alike) ∙ refused
refused_alike r q (Rule fault) alike refused =
    let asked = asked_alike r q alike refused.0 refused.1 in
    (asked.0, asked.1, subst (NamesBreach fault) (breach_alike r q alike refused.0 asked.0 asked.2) refused.2)
refused_alike r q (Variable fault) alike refused =
    let kept = kept_alike r q alike refused.0 refused.1 in
    (kept.0, kept.1, subst (NamesVariable fault) (answer_alike r q alike refused.0 kept.0 kept.2) refused.2)
refused_alike r q (NoPlan fault) alike refused =
    (other r q alike refused.0, subst (NamesNode fault) (ap answer_by (planned_alike r q alike refused.0)) refused.1)
refused_alike r q (Bound fault) alike refused =
    let same = planned_alike r q alike refused.0 in (
      other r q alike refused.0,
      sym (ap answer_by same) ∙ refused.1,
      record {
        of_types = subst (λ x. IsTrue fault.types ↔ ExceedsBy types x) same refused.2.of_types;
        of_fields = subst (λ x. IsTrue fault.fields ↔ ExceedsBy fields x) same refused.2.of_fields;
        some = refused.2.some;
      },
    )

-- ---- one verdict

pub alike_not_both : (r q : RequestData) (plan : Plan) (bound : Cost) (refusal : Refusal) → AskAlike r q → IsAccepted r plan bound → IsRefusedFor q refusal → ⊥
alike_not_both r q plan bound refusal alike accepted refused = not_both q plan bound refusal (accepted_alike r q plan bound alike accepted) refused

pub alike_one_bound : (r q : RequestData) (plan another : Plan) (bound cost : Cost) → AskAlike r q → IsAccepted r plan bound → IsAccepted q another cost → bound ≡ cost
alike_one_bound r q plan another bound cost alike a b = one_bound q plan another bound cost (accepted_alike r q plan bound alike a) b

pub alike_one_refusal : (r q : RequestData) (refusal another : Refusal) → AskAlike r q → IsRefusedFor r refusal → IsRefusedFor q another → refusal ≡ another
alike_one_refusal r q refusal another alike a b = one_refusal q refusal another (refused_alike r q refusal alike a) b
