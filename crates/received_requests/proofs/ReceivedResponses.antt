-- What is received is what is sent, but for the offsets of names.
use Rattle.std.proofs.Common.{◌≡◌, ℕ, List, [], ◌∷◌, refl, sym, ap, ap₂, ◌∙◌, subst, Some, Ok, Result}
use Rattle.document_reader.specs.declared.trees.Operation.{Operation}
use Rattle.document_reader.specs.Documents.{SelectionTrees}
use Rattle.response_model.specs.Cost.{Part}
use Rattle.response_model.specs.Response.{Tree}
use Rattle.document_rules.specs.Sites.{type_of_kind}
use Rattle.variable_coercion.specs.Refusals.{Refusal}
use Rattle.variable_coercion.specs.Variables.{VariableData, values_by_name}
use Rattle.plan_model.specs.Responses.{IsResponseTo, response_cost}
use Rattle.plan_model.specs.Operations.{root_place, root_position}
use Rattle.stripped_responses.specs.Stripping.{rewritten_setting, rewritten_root}
use Rattle.acceptance.specs.Requests.{RequestData, Prepared, AreValues, setting}
use Rattle.received_requests.specs.Offsets.{DifferInOffsets}
use Rattle.received_requests.specs.Received.{IsReceived, HasSelections, HasFragments, received_setting, selections_sent, fragments_sent}
use Rattle.received_requests.specs.Responses.{Executed}

module _ (r : RequestData) (p : Prepared r) (alias : List ℕ) (q : RequestData) (o : Operation) where
  pub differs : IsReceived r p alias q → HasSelections o (selections_sent r p alias) → HasFragments (received_setting q (values_by_name p.values) o) (fragments_sent r p alias) → DifferInOffsets (rewritten_setting alias (setting r p)) (received_setting q (values_by_name p.values) o) (rewritten_root alias r.schema p.root p.operation) (root_position p.root o)
  differs is selections fragments = record {
    schema = is.schema;
    weights = is.weights;
    values = refl;
    fragments = fragments;
    selections = ap (λ (xs : SelectionTrees). (Some p.root, xs) ∷ []) selections;
    handed = refl;
  }

-- ---- what is executed

same_root : (a b : ℕ) → Some a ≡ Some b → a ≡ b
same_root a b same = cc

same_values : (a b : List VariableData) → ◌≡◌ {A = Result (List VariableData) Refusal} (Ok a) (Ok b) → a ≡ b
same_values a b same = cc

module _ (q : RequestData) (o : Operation) where
  abbrev answers_at : ℕ → List VariableData → Tree → Type 0
  answers_at root values t = IsResponseTo (received_setting q (values_by_name values) o) (root_place root) (root_position root o) t

  abbrev cost_at : Part → Tree → ℕ → List VariableData → ℕ
  cost_at part t root values = response_cost (received_setting q (values_by_name values) o) part (root_place root) (root_position root o) t

  pub answers_moved : (a b : ℕ) (v w : List VariableData) (t : Tree) → a ≡ b → v ≡ w → answers_at a v t → answers_at b w t
  answers_moved a b v w t roots values answers = subst (λ (u : List VariableData). answers_at b u t) values (subst (λ (n : ℕ). answers_at n v t) roots answers)

  pub cost_moved : (part : Part) (t : Tree) (a b : ℕ) (v w : List VariableData) → a ≡ b → v ≡ w → cost_at part t a v ≡ cost_at part t b w
  cost_moved part t a b v w roots values = ap₂ (cost_at part t) roots values

module _ (r : RequestData) (p : Prepared r) (q : RequestData) (x : Executed q) where
  pub root_is : type_of_kind q.schema x.operation.kind ≡ Some p.root → x.root ≡ p.root
  root_is kind = same_root x.root p.root (sym x.on_root ∙ kind)

  pub values_are : AreValues q x.operation p.values → x.values ≡ p.values
  values_are are = same_values x.values p.values (sym x.are_values ∙ are)
