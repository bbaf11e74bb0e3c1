-- A reply: what its bytes read as, and the first test that they do not pass.
use Rattle.std.specs.Prelude.{◌≡◌, ◌↔◌, ◌<◌, ℕ, List, [], ◌∷◌, length, Bool, Option, Some, None, codes, if◌then◌else◌}
use Rattle.std.specs.Str.{is_utf8}
use Rattle.serde_json.specs.Data.{Data, Members, object as json_object}
use Rattle.serde_json.specs.Read.{read}
use Rattle.serde_json.specs.Find.{get_member, as_object}
use Rattle.response_model.specs.Plan.{Plan}
use Rattle.response_model.specs.Response.{Tree}
use Rattle.response_model.specs.Reading.{ReadsReply}
use Rattle.response_model.specs.Bound.{IsResponse}
use Rattle.response_model.specs.Cost.{Part, cost}
use Rattle.response_meter.specs.Faults.{Fault, not_response, at_step, given}
use Rattle.response_meter.specs.FirstFault.{data_fault}
use Rattle.response_model.specs.Errors.{ResponseError, errors_of}
use Rattle.response_meter.specs.declared.fault.Why.TheVariants.{NotJson, NotObject, NoData, BadErrors}

-- The JSON value that bytes are: they are UTF-8, and serde_json reads them.
abbrev pub json_of : List ℕ → Option Data
json_of bytes = if is_utf8 bytes then read bytes else None

-- The entries of a reply that are read. Others are passed over.
abbrev pub errors_entry : Members → Option Data
errors_entry ms = get_member (codes "errors") ms

abbrev pub data_entry : Members → Option Data
data_entry ms = get_member (codes "data") ms

module _ (name : ℕ → List ℕ) (alias : List ℕ) where
  -- The data of a reply reads as this tree. A reply without data reads as no tree, and has an error.
  abbrev pub DataReads : Plan → List ResponseError → Option Data → Option Tree → Type 0
  DataReads plan errors None None = 0 < length errors
  DataReads plan errors None (Some tree) = ⊥
  DataReads plan errors (Some json) None = ⊥
  DataReads plan errors (Some json) (Some tree) = ReadsReply name alias plan json tree

  -- A reply reads as this tree or no data, with these errors.
  pub record ReplyReads (plan : Plan) (bytes : List ℕ) (tree : Option Tree) (errors : List ResponseError) : Type 0 where
    pub members : Members
    pub is_json : json_of bytes ≡ Some (json_object members)
    pub errors_read : errors_of (errors_entry members) ≡ Some errors
    pub data_read : DataReads plan errors (data_entry members) tree

  -- A reply reads as one tree or none, and with one list of errors.
  abbrev pub ReadsOnce : Plan → List ℕ → Type 0
  ReadsOnce plan bytes = (t s : Option Tree) (es fs : List ResponseError) → ReplyReads plan bytes t es → ReplyReads plan bytes s fs → (t ≡ s) × (es ≡ fs)

-- The data that was read, if any, is a response of the plan: it fits, and keeps the declared sizes.
abbrev pub IsResponseOrNone : (ℕ → Data → Bool) → Plan → Option Tree → Type 0
IsResponseOrNone holds plan None = Unit {0}
IsResponseOrNone holds plan (Some tree) = IsResponse holds plan tree

-- A reply reads, and its data, if any, is a response of the plan.
abbrev pub IsReadable : (ℕ → Data → Bool) → (ℕ → List ℕ) → List ℕ → Plan → List ℕ → Type 0
IsReadable holds name alias plan bytes = (tree : Option Tree) × (errors : List ResponseError) × ReplyReads name alias plan bytes tree errors × IsResponseOrNone holds plan tree

module _ (holds : ℕ → Data → Bool) (name : ℕ → List ℕ) (alias : List ℕ) where
  -- The tests of what stands in a reply: there is data, or at least one error without data.
  abbrev pub content_fault : Plan → List ResponseError → Option Data → Option Fault
  content_fault plan [] None = Some (not_response [] NoData)
  content_fault plan (e ∷ es) None = None
  content_fault plan errors (Some json) = data_fault holds name alias plan json

  -- The tests of the entries of a reply: its errors are well formed, it has data or errors, and its data fits and keeps the sizes.
  abbrev pub entries_fault : Plan → Members → Option Fault
  entries_fault plan ms = given (errors_of (errors_entry ms)) BadErrors (λ errors. content_fault plan errors (data_entry ms))

  -- The first test that a reply does not pass, in reading order: it is JSON, it is an object, and its entries pass theirs.
  abbrev pub reply_fault : Plan → List ℕ → Option Fault
  reply_fault plan bytes = given (json_of bytes) NotJson (λ json. given (as_object json) NotObject (λ ms. entries_fault plan ms))

  -- Its path begins at the data.
  abbrev pub first_reply_fault : Plan → List ℕ → Option Fault
  first_reply_fault plan bytes = at_step (codes "data") (reply_fault plan bytes)

  -- A reply passes every test exactly where it reads and its data, if any, is a response.
  abbrev pub PassesWhereReadable : Plan → List ℕ → Type 0
  PassesWhereReadable plan bytes = (first_reply_fault plan bytes ≡ None) ↔ IsReadable holds name alias plan bytes

  -- There is a first fault exactly where it doesn't, or its data is no response.
  abbrev pub FailsWhereUnreadable : Plan → List ℕ → Type 0
  FailsWhereUnreadable plan bytes = ((fault : Fault) × (first_reply_fault plan bytes ≡ Some fault)) ↔ (IsReadable holds name alias plan bytes → ⊥)

-- What a reply costs: that of its data, or nothing where it has none.
abbrev pub reply_cost : Part → Plan → Option Tree → ℕ
reply_cost part plan None = 0
reply_cost part plan (Some tree) = cost part plan tree
