-- What is measured of a reply to an operation of a plan.
use Rattle.std.specs.Prelude.{◌≡◌, ◌<◌, ◌≤◌, ℕ, List, length, Option}
use Rattle.cost_num.specs.declared.Cost.{Cost}
use Rattle.schema_model.specs.SchemaData.{SchemaData, type_at}
use Rattle.response_model.specs.Plan.{Plan as PlanTree}
use Rattle.response_model.specs.Response.{Tree}
use Rattle.response_model.specs.Cost.{types, fields}
use Rattle.response_model.specs.Errors.{ResponseError}
use Rattle.plan_table.specs.declared.table.Plan.{Plan}
use Rattle.plan_table.specs.Tables.{setting_in}
use Rattle.plan_table.specs.TableBounds.{holds_in}
use Rattle.response_model.specs.AnswerTexts.{IsAnswerText}
use Rattle.response_model.specs.ResponseText.{response_text}
use Rattle.response_meter.specs.Faults.{Fault}
use Rattle.response_meter.specs.Reply.{ReplyReads, IsResponseOrNone, IsReadable, first_reply_fault, reply_cost}
use Rattle.response_meter.specs.declared.metered.Metered.{Metered}

-- The name of the type of a number, in the plan's schema.
abbrev pub name_in : Plan → ℕ → List ℕ
name_in p T = (type_at (setting_in p).schema T).name

-- The types of a schema have different names.
abbrev pub TypesDiffer : SchemaData → Type 0
TypesDiffer s = (T U : ℕ) → T < length s.types → U < length s.types → (type_at s T).name ≡ (type_at s U).name → T ≡ U

-- The first test that a reply does not pass, where the type names of objects were added under this alias.
abbrev pub first_fault_in : Plan → List ℕ → PlanTree → List ℕ → Option Fault
first_fault_in p alias tree bytes = first_reply_fault (holds_in p) (name_in p) alias tree bytes

-- A reply reads, and its data, if any, is a response.
abbrev pub IsReadableIn : Plan → List ℕ → PlanTree → List ℕ → Type 0
IsReadableIn p alias tree bytes = IsReadable (holds_in p) (name_in p) alias tree bytes

-- The reply reads as data or none, with some errors; its data, if any, is a response of the plan; and what is measured is
-- what that costs, and an answer text of just this.
pub record IsMetered (p : Plan) (alias : List ℕ) (tree : PlanTree) (bytes : List ℕ) (metered : Metered) : Type 0 where
  pub content : Option Tree
  pub errors : List ResponseError
  pub reads : ReplyReads (name_in p) alias tree bytes content errors
  pub is_response : IsResponseOrNone (holds_in p) tree content
  pub types_cost : metered.cost.types ≡ reply_cost types tree content
  pub fields_cost : metered.cost.fields ≡ reply_cost fields tree content
  pub text : IsAnswerText content errors metered.text

-- The answer is one text of its content and errors, letter for letter.
abbrev pub HasOneText : Plan → List ℕ → PlanTree → List ℕ → Metered → Type 0
HasOneText p alias tree bytes metered = (is : IsMetered p alias tree bytes metered) → metered.text ≡ response_text is.content is.errors

-- Neither component is more than that of the other cost.
abbrev pub IsAtMost : Cost → Cost → Type 0
IsAtMost cost greatest = (cost.types ≤ greatest.types) × (cost.fields ≤ greatest.fields)

-- The reply reads as one content and one list of errors, by some plan, and these are answer texts of them. What it reads as is nested no deeper than
-- what is read at all, so that each of the texts is read as it.
pub record AreTextsAlike (reply text other : List ℕ) : Type 0 where
  pub name : ℕ → List ℕ
  pub alias : List ℕ
  pub plan : PlanTree
  pub content : Option Tree
  pub errors : List ResponseError
  pub reads : ReplyReads name alias plan reply content errors
  pub is_text : IsAnswerText content errors text
  pub is_other : IsAnswerText content errors other

-- They have one cost, and such answer texts.
pub record AreMeasuredAlike (reply : List ℕ) (metered other : Metered) : Type 0 where
  pub cost : metered.cost ≡ other.cost
  pub texts : AreTextsAlike reply metered.text other.text
