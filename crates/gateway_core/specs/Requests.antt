-- What the body of a request comes to, by the rules of a gate.
use Rattle.std.specs.Prelude.{◌≡◌, ◌⊎◌, ℕ, false, List, Some}
use Rattle.serde_json.specs.Written.{compact_text}
use Rattle.response_model.specs.WrittenJson.{IsCompact}
use Rattle.cost_num.specs.declared.Cost.{Cost}
use Rattle.schema_model.specs.SchemaViews.{schema_data}
use Rattle.schema_model.specs.SchemaData.{has_floats}
use Rattle.document_reader.specs.declared.trees.Document.{Document}
use Rattle.document_reader.specs.DocumentAnswers.{IsDocumentOf}
use Rattle.request_bodies.specs.Bodies.{RequestData as Asked}
use Rattle.trusted_documents.specs.Requests.{IsRequestBy}
use Rattle.local_introspection.specs.PassedOn.{Refusal, RequestData, IsAffordable, IsAccepted, IsUnread, IsRefusedFor, IsFreeIn, sent_body}
use Rattle.operation_class.specs.Routes.{GoesUpstream as IsForUpstream}
use Rattle.local_introspection.specs.declared.facts.Facts.{Facts}
use Rattle.local_introspection.specs.declared.fault.LocalFault.{LocalFault}
use Rattle.local_introspection.specs.declared.walk.Local.{Local}
use Rattle.local_introspection.specs.AskedHere.{IsAnsweredHere, IsRefusedHere}
use Rattle.gateway_core.specs.declared.promise.Promise.{Promise}
use Rattle.gateway_core.specs.Rules.{Rules}

-- what a body asks of the schema, with the document that its query is
abbrev pub request_of : Rules → Asked → Document → RequestData
request_of rules asked document = record {
  schema = rules.schema;
  weights = rules.weights;
  document = document.definitions.items;
  name = asked.name;
  given = asked.variables;
}

-- The body is a request, its query is a document, with floats where the schema lets them in, and this holds of what is asked.
abbrev pub Asks : Rules → List ℕ → (RequestData → Type 0) → Type 0
Asks rules body P = (asked : Asked) × IsRequestBy rules.trusted body asked × ((document : Document) × IsDocumentOf (has_floats rules.schema) asked.query document × P (request_of rules asked document))

-- ---- where the operation that is asked for is answered

-- The operation that is picked goes to the upstream, if one is. Where nothing is known of the schema, each does.
abbrev pub GoesUpstream : Rules → RequestData → Type 0
GoesUpstream rules r = (facts : Facts) → rules.facts ≡ Some facts → IsForUpstream r.name r.document

-- ---- operations for the upstream

-- The body asks for an operation for the upstream, and this holds of what is asked.
abbrev pub AsksThat : Rules → List ℕ → (RequestData → Type 0) → Type 0
AsksThat rules body P = Asks rules body (λ r. GoesUpstream rules r × P r)

-- The body is a request whose query is no document, or whose operation is refused for this.
abbrev pub IsRefusedBody : Rules → List ℕ → Refusal → Type 0
IsRefusedBody rules body refusal = ((asked : Asked) × IsRequestBy rules.trusted body asked × IsUnread (has_floats rules.schema) asked.query refusal)
    ⊎ AsksThat rules body (λ r. IsRefusedFor r refusal)

-- The body is a request for an operation with this bound, within the cap.
abbrev pub IsPricedAt : Rules → List ℕ → Cost → Type 0
IsPricedAt rules body bound = AsksThat rules body (λ r. IsAffordable r bound)

-- What is asked is accepted with this plan and this bound, and this is what is sent for it: a compact text of the body, and the one compact text where
-- the schema lets no floats in.
pub record IsPromised (r : RequestData) (p : Promise) : Type 0 where
  pub is_accepted : IsAccepted r p.plan p.bound
  pub of_schema : schema_data p.plan.schema.now ≡ r.schema
  pub is_free : IsFreeIn r p.alias
  pub is_sent : IsCompact (sent_body r is_accepted.is_planned.prepared p.alias) p.forward
  pub is_plain : has_floats r.schema ≡ false → p.forward ≡ compact_text (sent_body r is_accepted.is_planned.prepared p.alias)

abbrev pub IsPromisedFor : Rules → List ℕ → Promise → Type 0
IsPromisedFor rules body promise = AsksThat rules body (λ r. IsPromised r promise)

-- ---- operations that the gateway answers by what it knows of its schema (GraphQL October 2021, 4)

-- This is what the gate knows of its schema.
abbrev pub Knows : Rules → Facts → Type 0
Knows rules facts = rules.facts ≡ Some facts

-- The body asks for an operation that doesn't go to the upstream, and the gateway answers it so.
abbrev pub IsAnsweredFor : Rules → List ℕ → Local → Type 0
IsAnsweredFor rules body answer = Asks rules body (IsAnsweredHere (Knows rules) answer)

-- The body asks for such an operation, and the answer costs so much.
abbrev pub IsLocalAt : Rules → List ℕ → Cost → Type 0
IsLocalAt rules body cost = (answer : Local) × IsAnsweredFor rules body answer × (answer.cost ≡ cost)

-- The body asks for such an operation, and the gateway refuses it for this, which is no want of memory.
abbrev pub IsNotLocal : Rules → List ℕ → LocalFault → Type 0
IsNotLocal rules body fault = Asks rules body (IsRefusedHere (Knows rules) fault)
