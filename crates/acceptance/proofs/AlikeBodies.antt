-- What is sent for a request is what is sent for each that asks the same.
use Rattle.std.proofs.Common.{◌≡◌, ◌∙◌, ℕ, List, ◌∷◌, map, Some, refl, ap, ap₂}
use Rattle.gql_base.specs.parts.Trees.{directive_tree}
use Rattle.gql_base.specs.printing.Printing.{printed}
use Rattle.serde_json.specs.Data.{Data}
use Rattle.document_reader.specs.declared.trees.Operation.{Operation}
use Rattle.document_reader.specs.Documents.{operation_tree}
use Rattle.document_reader.specs.Trees.{maybe_identifier, variable_tree, set_tree}
use Rattle.document_reader.specs.PrintedDocuments.{document_symbols}
use Rattle.document_rules.specs.Parts.{FragmentData}
use Rattle.schema_model.specs.SchemaData.{SchemaData}
use Rattle.variable_coercion.specs.Variables.{values_by_name}
use Rattle.plan_model.specs.SelectedFields.{Setting}
use Rattle.plan_model.specs.Operations.{setting_of}
use Rattle.typename_rewrite.specs.Rewriting.{rewritten_selections, rewritten_operation, rewritten_definition, rewritten_document}
use Rattle.typename_rewrite.specs.ForwardedBodies.{body_with, body_data, sent_variables}
use Rattle.acceptance.specs.Requests.{RequestData, Prepared, setting}
use Rattle.acceptance.specs.Forwarding.{sent_body}
use Rattle.acceptance.specs.AskAlike.{AskAlike}
use Rattle.acceptance.proofs.AlikeOperations.{AreAlike}
use Rattle.acceptance.proofs.AlikeRequests.{kept_alike, other, planned_alike}
use Rattle.acceptance.proofs.OneVerdict.{moved}

-- the body of an operation with these fragments
abbrev body_of : SchemaData → List ℕ → ℕ → Operation → List FragmentData → Data → Data
body_of s alias root o fragments given = body_data o (printed (document_symbols (rewritten_document s alias root o fragments))) given

module _ (s : SchemaData) (alias : List ℕ) (root : ℕ) (o p : Operation) (same : AreAlike o p) where
  rewritten_alike : rewritten_operation s alias root o ≡ rewritten_operation s alias root p
  rewritten_alike =
      ap (λ kind. operation_tree kind (maybe_identifier o.name) (map variable_tree o.variables.items) (map directive_tree o.directives.items) (rewritten_selections s alias (Some root) (set_tree o.selections.items))) same.kind
      ∙ (ap (λ name. operation_tree p.kind name (map variable_tree o.variables.items) (map directive_tree o.directives.items) (rewritten_selections s alias (Some root) (set_tree o.selections.items))) same.name
      ∙ (ap (λ variables. operation_tree p.kind (maybe_identifier p.name) variables (map directive_tree o.directives.items) (rewritten_selections s alias (Some root) (set_tree o.selections.items))) same.variables
      ∙ (ap (λ directives. operation_tree p.kind (maybe_identifier p.name) (map variable_tree p.variables.items) directives (rewritten_selections s alias (Some root) (set_tree o.selections.items))) same.directives
      ∙ ap (λ below. operation_tree p.kind (maybe_identifier p.name) (map variable_tree p.variables.items) (map directive_tree p.directives.items) (rewritten_selections s alias (Some root) below)) same.below)))

  document_alike : (fragments : List FragmentData) → rewritten_document s alias root o fragments ≡ rewritten_document s alias root p fragments
  unfolding rewritten_document
  document_alike fragments = ap (λ operation. operation ∷ map (rewritten_definition s alias) fragments) rewritten_alike

  body_alike : (fragments : List FragmentData) (given : Data) → body_of s alias root o fragments given ≡ body_of s alias root p fragments given
  unfolding body_data
  body_alike fragments given =
      ap (λ name. body_with name (printed (document_symbols (rewritten_document s alias root o fragments))) (sent_variables (map variable_tree o.variables.items) given)) same.name
      ∙ (ap (λ document. body_with (maybe_identifier p.name) (printed (document_symbols document)) (sent_variables (map variable_tree o.variables.items) given)) (document_alike fragments)
      ∙ ap (λ variables. body_with (maybe_identifier p.name) (printed (document_symbols (rewritten_document s alias root p fragments))) (sent_variables variables given)) same.variables)

module _ (r q : RequestData) (alike : AskAlike r q) (p : Prepared r) (alias : List ℕ) where
  sent_alike : sent_body r p alias ≡ sent_body q (other r q alike p) alias
  sent_alike =
      let same = (kept_alike r q alike p.operation p.keeps).2 in
      let by = other r q alike p in
      ap₂ (λ s given. body_of s alias p.root p.operation (setting r p).fragments given) alike.schema alike.given
      ∙ (ap (λ (e : Setting). body_of q.schema alias p.root p.operation e.fragments q.given) (ap (λ x. x.setting) (planned_alike r q alike p))
      ∙ body_alike q.schema alias p.root p.operation by.operation same (setting q by).fragments q.given)

pub one_body : (r q : RequestData) (p : Prepared r) (o : Prepared q) (alias : List ℕ) → AskAlike r q → sent_body r p alias ≡ sent_body q o alias
one_body r q p o alias alike = sent_alike r q alike p alias ∙ moved q (λ operation root values.
    sent_body q (other r q alike p) alias ≡ body_of q.schema alias root operation (setting_of q.schema q.weights (values_by_name values) q.document operation).fragments q.given) (other r q alike p) o refl
