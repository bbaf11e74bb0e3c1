-- Responses to what is sent for a request, and what their JSON reads as.
use Rattle.std.specs.Prelude.{ℕ, List}
use Rattle.serde_json.specs.Data.{Data}
use Rattle.response_model.specs.Response.{Tree}
use Rattle.response_model.specs.Reading.{ReadsReply}
use Rattle.plan_model.specs.Responses.{IsResponseTo}
use Rattle.plan_model.specs.Operations.{root_place}
use Rattle.stripped_responses.specs.Stripping.{stripped, rewritten_setting, rewritten_root}
use Rattle.sent_replies.specs.Saying.{SaysTree}
use Rattle.sent_replies.specs.Asking.{type_names}
use Rattle.acceptance.specs.Requests.{RequestData, Prepared, setting, plan_tree}

module _ (r : RequestData) (p : Prepared r) (alias : List ℕ) where
  -- It is a response to the operation that is sent, with the fragments that it reaches.
  abbrev pub AnswersSent : Tree → Type 0
  AnswersSent t = IsResponseTo (rewritten_setting alias (setting r p)) (root_place p.root) (rewritten_root alias r.schema p.root p.operation) t

  -- By the plan of the request's own operation the JSON reads as this tree.
  abbrev pub ReadsByPlan : Data → Tree → Type 0
  ReadsByPlan json t = ReadsReply (type_names r.schema) alias (plan_tree r p) json t

  -- Each JSON of a response to what is sent reads so as the response without the names of types that were added.
  abbrev pub ReadsAllByPlan : Type 0
  ReadsAllByPlan = (t : Tree) (json : Data) → AnswersSent t → SaysTree json t → ReadsByPlan json (stripped alias t)
