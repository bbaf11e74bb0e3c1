-- The body in which a request is sent.
use Rattle.std.specs.Prelude.{◌≡◌, ℕ, List, [], ◌∷◌, map, codes, Option, Some, None}
use Rattle.serde_json.specs.Data.{Members, no_members, member}
use Rattle.document_reader.specs.DocumentAnswers.{HasDocument}
use Rattle.document_reader.specs.Trees.{definition_tree}
use Rattle.schema_model.specs.SchemaData.{has_floats}
use Rattle.request_bodies.specs.Bodies.{RequestData as BodyData, IsRequest}
use Rattle.acceptance.specs.Requests.{RequestData, Prepared}
use Rattle.acceptance.specs.Forwarding.{sent_text}
use Rattle.received_requests.specs.Received.{IsReceived, variables_sent, name_sent}

-- ---- the members of a body

abbrev pub keys_of : Members → List (List ℕ)
keys_of no_members = []
keys_of (member key json others) = key ∷ keys_of others

-- the keys of a body, where the operation has this name or none
abbrev pub body_keys : Option (List ℕ) → List (List ℕ)
body_keys None = codes "query" ∷ codes "variables" ∷ []
body_keys (Some name) = codes "operationName" ∷ codes "query" ∷ codes "variables" ∷ []

-- the request that is sent, as a body's reader sees one
abbrev pub request_sent : (r : RequestData) → Prepared r → List ℕ → BodyData
request_sent r p alias = record { query = sent_text r p alias; name = name_sent r p; variables = variables_sent r p }

-- ---- who reads a body

-- The second request is what a body asks of the first one's schema: its query is a text of the document, and it gives the name and
-- the variables.
pub record ComesFromBody (body : List ℕ) (r q : RequestData) : Type 0 where
  pub asked : BodyData
  pub is_request : IsRequest body asked
  pub schema : q.schema ≡ r.schema
  pub weights : q.weights ≡ r.weights
  pub document : HasDocument (has_floats r.schema) asked.query (map definition_tree q.document)
  pub name : q.name ≡ asked.name
  pub given : q.given ≡ asked.variables

-- Whatever the body asks of the request's schema is a request that is received.
abbrev pub AsksForReceived : (r : RequestData) → Prepared r → List ℕ → List ℕ → Type 0
AsksForReceived r p alias body = (q : RequestData) → ComesFromBody body r q → IsReceived r p alias q
