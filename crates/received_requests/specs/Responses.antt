-- What whoever receives a request executes of it, and the responses to that.
use Rattle.std.specs.Prelude.{◌≡◌, ◌↔◌, ℕ, List, Some}
use Rattle.serde_json.specs.Data.{Data}
use Rattle.response_model.specs.Cost.{Part}
use Rattle.response_model.specs.Response.{Tree}
use Rattle.document_reader.specs.declared.trees.Operation.{Operation}
use Rattle.document_rules.specs.Sites.{type_of_kind}
use Rattle.variable_coercion.specs.Variables.{VariableData, values_by_name}
use Rattle.plan_model.specs.Responses.{IsResponseTo, response_cost}
use Rattle.plan_model.specs.Operations.{root_place, root_position}
use Rattle.stripped_responses.specs.Stripping.{stripped, cost_sent, rewritten_root}
use Rattle.sent_replies.specs.Saying.{SaysTree}
use Rattle.acceptance.specs.Requests.{RequestData, Prepared, AsksFor, AreValues, setting}
use Rattle.sent_documents.specs.SentResponses.{AnswersSent, ReadsByPlan}
use Rattle.received_requests.specs.Received.{received_setting}

-- What is executed of a request (GraphQL October 2021, 6.1): the operation that it asks for, on the type of its kind, with the
-- values of its variables.
pub record Executed (q : RequestData) : Type 0 where
  pub operation : Operation
  pub root : ℕ
  pub values : List VariableData
  pub picked : AsksFor q operation
  pub on_root : type_of_kind q.schema operation.kind ≡ Some root
  pub are_values : AreValues q operation values

-- It is a response to what is executed, and costs this.
abbrev pub AnswersExecuted : (q : RequestData) → Executed q → Tree → Type 0
AnswersExecuted q x t = IsResponseTo (received_setting q (values_by_name x.values) x.operation) (root_place x.root) (root_position x.root x.operation) t

abbrev pub executed_cost : (q : RequestData) → Executed q → Part → Tree → ℕ
executed_cost q x part t = response_cost (received_setting q (values_by_name x.values) x.operation) part (root_place x.root) (root_position x.root x.operation) t

module _ (r : RequestData) (p : Prepared r) where
  -- It is a response to the request's own operation, and costs this.
  abbrev pub AnswersOwn : Tree → Type 0
  AnswersOwn t = IsResponseTo (setting r p) (root_place p.root) (root_position p.root p.operation) t

  abbrev pub own_cost : Part → Tree → ℕ
  own_cost part t = response_cost (setting r p) part (root_place p.root) (root_position p.root p.operation) t

  -- what a response to the rewritten operation costs
  abbrev pub sent_cost : List ℕ → Part → Tree → ℕ
  sent_cost alias part t = cost_sent alias (setting r p) part (root_place p.root) (rewritten_root alias r.schema p.root p.operation) t

  -- Each JSON that says the tree reads, by the plan of the request's own operation, as the tree without the names under the alias.
  abbrev pub ReadsAsStripped : List ℕ → Tree → Type 0
  ReadsAsStripped alias t = (json : Data) → SaysTree json t → ReadsByPlan r p alias json (stripped alias t)

  -- ---- all that is executed of a request that is received

  -- A tree is a response to it exactly where it is one to what is sent.
  abbrev pub HasResponsesSent : List ℕ → RequestData → Type 0
  HasResponsesSent alias q = (x : Executed q) (t : Tree) → AnswersExecuted q x t ↔ AnswersSent r p alias t

  -- It costs the same at both.
  abbrev pub CostsAsSent : List ℕ → RequestData → Type 0
  CostsAsSent alias q = (x : Executed q) (part : Part) (t : Tree) → executed_cost q x part t ≡ sent_cost alias part t

  -- A response to it is one to the request's own operation, without the names under the alias.
  abbrev pub AnswersOwnStripped : List ℕ → RequestData → Type 0
  AnswersOwnStripped alias q = (x : Executed q) (t : Tree) → AnswersExecuted q x t → AnswersOwn (stripped alias t)

  -- That costs the same.
  abbrev pub CostsAsStripped : List ℕ → RequestData → Type 0
  CostsAsStripped alias q = (x : Executed q) (part : Part) (t : Tree) → AnswersExecuted q x t → executed_cost q x part t ≡ own_cost part (stripped alias t)

  -- Each response to the request's own operation comes from one to it.
  abbrev pub HasEachStripped : List ℕ → RequestData → Type 0
  HasEachStripped alias q = (x : Executed q) (s : Tree) → AnswersOwn s → (t : Tree) × AnswersExecuted q x t × (stripped alias t ≡ s)

  -- Each JSON of a response to it reads as the response without the names under the alias.
  abbrev pub ReadsAllStripped : List ℕ → RequestData → Type 0
  ReadsAllStripped alias q = (x : Executed q) (t : Tree) → AnswersExecuted q x t → ReadsAsStripped alias t
