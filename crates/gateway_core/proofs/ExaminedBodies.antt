-- What a body comes to, by what its request comes to.
use Rattle.std.proofs.Common.{◌≡◌, ◌⊎◌, inl, inr, ◌∙◌, ◌<◌, ℕ, List, None, Some, Result, Ok, Err, sym, subst, arith}
use Rattle.std.specs.Prelude.{IfOk, IfErr, codes}
use Rattle.serde_json.specs.Data.{Data, object, no_members, depth}
use Rattle.serde_json.specs.Read.{read, max_depth}
use Rattle.serde_json.specs.Find.{get}
use Rattle.document_reader.specs.declared.trees.Document.{Document}
use Rattle.schema_model.specs.SchemaData.{has_floats}
use Rattle.document_reader.specs.DocumentAnswers.{IsDocumentOf}
use Rattle.request_bodies.specs.Bodies.{RequestData as Asked}
use Rattle.trusted_documents.specs.Requests.{IsRequestBy}
use Rattle.std.proofs.lemmas.Option.{none-some}
use Rattle.document_reader.specs.Picking.{picked}
use Rattle.typename_rewrite.specs.ReadJson.{IsAsRead}
use Rattle.local_introspection.specs.PassedOn.{IsGivenAsRead, RequestData, IsUnread, IsRefusedFor}
use Rattle.operation_class.specs.declared.classes.Class.{Class}
use Rattle.operation_class.specs.declared.classes.Class.TheVariants as class
use Rattle.operation_class.specs.Classes.{class_at}
use Rattle.local_introspection.specs.declared.facts.Facts.{Facts}
use Rattle.local_introspection.specs.declared.fault.LocalFault.TheVariants.{Mixed}
use Rattle.local_introspection.specs.LocalRequests.{LocalRequest}
use Rattle.local_introspection.specs.LocalAnswers.{IsRefusedFor as IsNotAnsweredFor}
use Rattle.local_introspection.specs.AskedHere.{asked_at, IsHereThat, IsRefusedHere}
use Rattle.gateway_core.specs.declared.beginning.Denial.{Denial}
use Rattle.gateway_core.specs.declared.beginning.Denial.TheVariants.{UnknownKey, Unexpanded, BadBody, Refused, NotLocal, Short, Full, Work, Memory}
use Rattle.gateway_core.specs.declared.examining.Examined.{Examined}
use Rattle.gateway_core.specs.declared.examining.Examined.TheVariants as found
use Rattle.gateway_core.specs.Rules.{Rules}
use Rattle.gateway_core.specs.Requests.{request_of, GoesUpstream, Knows}
use Rattle.gateway_core.specs.Begins.{IsUnfit, IfRefusal}
use Rattle.gateway_core.specs.Examined.{IsFound, IsFoundFor, IsUnfitFor, IsNotOwn, TellsLocal}

-- what a body gives for the variables comes from a reader
pub given_by : (body : List ℕ) (variables : Data) → ((json : Data) → read body ≡ Some json → IsAsRead json)
    → ((json value : Data) (key : List ℕ) → IsAsRead json → get key json ≡ Some value → IsAsRead value)
    → ((json value : Data) (key : List ℕ) → read body ≡ Some json → get key json ≡ Some value → depth value < max_depth)
    → (variables ≡ object no_members) ⊎ ((json : Data) × (read body ≡ Some json) × (get (codes "variables") json ≡ Some variables)) → IsGivenAsRead variables
given_by body variables whole part within (inl empty) = subst IsGivenAsRead (sym empty) (record { as_read = tt; within = omega arith })
given_by body variables whole part within (inr (json, is, got)) = record {
  as_read = part json variables (codes "variables") (whole json is) got;
  within = within json variables (codes "variables") is got;
}

module _ (rules : Rules) (body : List ℕ) (asked : Asked) (is_request : IsRequestBy rules.trusted body asked) where
  pub unread_is_unfit : (denial : Denial) → IfRefusal denial (IsUnread (has_floats rules.schema) asked.query) → IsUnfit rules body denial
  unread_is_unfit UnknownKey unread = absurd unread
  unread_is_unfit (Unexpanded fault) unread = absurd unread
  unread_is_unfit (BadBody fault) unread = absurd unread
  unread_is_unfit (Refused refusal) unread = inl (asked, is_request, unread)
  unread_is_unfit (NotLocal fault) unread = absurd unread
  unread_is_unfit (Short left bound) unread = absurd unread
  unread_is_unfit Full unread = absurd unread
  unread_is_unfit Work unread = absurd unread
  unread_is_unfit Memory unread = tt

  module _ (document : Document) (is_document : IsDocumentOf (has_floats rules.schema) asked.query document) where
    unfit_for_body : (denial : Denial) → IsUnfitFor rules (request_of rules asked document) denial → IsUnfit rules body denial
    unfit_for_body UnknownKey unfit = absurd unfit
    unfit_for_body (Unexpanded fault) unfit = absurd unfit
    unfit_for_body (BadBody fault) unfit = absurd unfit
    unfit_for_body (Refused refusal) unfit = inr (asked, is_request, (document, is_document, unfit))
    unfit_for_body (NotLocal fault) unfit = (asked, is_request, (document, is_document, unfit))
    unfit_for_body (Short left bound) unfit = absurd unfit
    unfit_for_body Full unfit = absurd unfit
    unfit_for_body Work unfit = absurd unfit
    unfit_for_body Memory unfit = tt

    pub found_of_body : (result : Result Examined Denial) → IfOk result (IsFoundFor rules (request_of rules asked document)) → IfOk result (IsFound rules body)
    found_of_body (Ok (found.Upstream promise)) is = (asked, is_request, (document, is_document, is))
    found_of_body (Ok (found.Local answer)) is = (asked, is_request, (document, is_document, is))
    found_of_body (Err denial) is = tt

    pub unfit_of_body : (result : Result Examined Denial) → IfErr result (IsUnfitFor rules (request_of rules asked document)) → IfErr result (IsUnfit rules body)
    unfit_of_body (Ok examined) unfit = tt
    unfit_of_body (Err denial) unfit = unfit_for_body denial unfit

-- ---- where the gateway is the one to answer

-- nothing is known of the schema
pub knows_nothing : (rules : Rules) (r : RequestData) → rules.facts ≡ None → GoesUpstream rules r
knows_nothing rules r none facts known = absurd (none-some facts (sym none ∙ known))

module _ (rules : Rules) (r : RequestData) (facts : Facts) (known : rules.facts ≡ Some facts) (place : ℕ) (at : picked r.name r.document ≡ Ok place) where
  pub is_here : (P : LocalRequest → Type 0) → (class_at r.document place ≡ class.Upstream → ⊥) → P (asked_at facts r place) → IsHereThat (Knows rules) P r
  is_here P other p = (facts, known, (place, at, other, p))

  pub is_mixed : (offset : ℕ) → class_at r.document place ≡ class.Mixed offset → IsRefusedHere (Knows rules) (Mixed offset) r
  is_mixed offset is = ((λ e. cc e), is_here (λ q. IsNotAnsweredFor q (Mixed offset)) (λ e. let f : ◌≡◌ {A = Class} (class.Mixed offset) class.Upstream = sym is ∙ e in cc f) is)

  pub is_local : (P : LocalRequest → Type 0) → class_at r.document place ≡ class.Local → P (asked_at facts r place) → IsHereThat (Knows rules) P r
  is_local P is p = is_here P (λ e. let f : ◌≡◌ {A = Class} class.Local class.Upstream = sym is ∙ e in cc f) p

  -- why it isn't answered
  pub not_local : class_at r.document place ≡ class.Local → (denial : Denial) → TellsLocal (asked_at facts r place) denial → IsNotOwn rules r denial
  not_local is UnknownKey told = absurd told
  not_local is (Unexpanded fault) told = absurd told
  not_local is (BadBody fault) told = absurd told
  not_local is (Refused refusal) told = absurd told
  not_local is (NotLocal fault) told = (told.0, is_local (λ q. IsNotAnsweredFor q fault) is told.1)
  not_local is (Short left bound) told = absurd told
  not_local is Full told = absurd told
  not_local is Work told = absurd told
  not_local is Memory told = tt

-- what isn't answered here, or was refused for the upstream, is unfit
pub not_own_is_unfit : (rules : Rules) (r : RequestData) (denial : Denial) → IsNotOwn rules r denial → IsUnfitFor rules r denial
not_own_is_unfit rules r UnknownKey not = not
not_own_is_unfit rules r (Unexpanded fault) not = not
not_own_is_unfit rules r (BadBody fault) not = not
not_own_is_unfit rules r (Refused refusal) not = absurd not
not_own_is_unfit rules r (NotLocal fault) not = not
not_own_is_unfit rules r (Short left bound) not = not
not_own_is_unfit rules r Full not = not
not_own_is_unfit rules r Work not = not
not_own_is_unfit rules r Memory not = tt

pub refused_is_unfit : (rules : Rules) (r : RequestData) → GoesUpstream rules r → (denial : Denial) → IfRefusal denial (IsRefusedFor r) → IsUnfitFor rules r denial
refused_is_unfit rules r goes UnknownKey refused = refused
refused_is_unfit rules r goes (Unexpanded fault) refused = refused
refused_is_unfit rules r goes (BadBody fault) refused = refused
refused_is_unfit rules r goes (Refused refusal) refused = (goes, refused)
refused_is_unfit rules r goes (NotLocal fault) refused = absurd refused
refused_is_unfit rules r goes (Short left bound) refused = refused
refused_is_unfit rules r goes Full refused = refused
refused_is_unfit rules r goes Work refused = refused
refused_is_unfit rules r goes Memory refused = tt
