-- The replies of the gateway.
use Rattle.std.specs.Prelude.{◌≡◌, ◌≢◌, ◌⊎◌, ℕ, Bool, List, [], ◌++◌, length, Option, Some, None, Result, Ok, Err, IfSome, codes}
use Rattle.std.specs.Fmt.{decimal}
use Rattle.cost_num.specs.declared.Cost.{Cost}
use Rattle.http_front.specs.declared.fault.FrontFault.{FrontFault}
use Rattle.http_front.specs.declared.fault.FrontFault.TheVariants as fault
use Rattle.http_front.specs.declared.reply.Hint.{Hint}
use Rattle.http_front.specs.ReplyBytes.{status_text, head_bytes, AreCosts, IsHint}
use Rattle.gateway_core.specs.declared.beginning.Denial.{Denial}
use Rattle.gateway_core.specs.declared.finishing.Finished.{Finished}
use Rattle.gateway_core.specs.Messages.{message_body, no_memory_text, denial_status, denial_text}
use Rattle.gateway_connections.specs.declared.reply.Reply.{Reply}

abbrev pub reply_as : ℕ → Option (Cost × Cost) → List ℕ → Reply
reply_as status costs body = record { status = status; costs = costs; hint = None; body = body }

-- ---- how replies are written

-- The body as it is written: where there was no memory for it, a constant one says so.
abbrev pub written_body : List ℕ → List ℕ
written_body [] = message_body no_memory_text
written_body body = body

-- the bytes of a reply with this body, after which the connection closes or doesn't
abbrev pub bytes_with : Bool → ℕ → Option (Cost × Cost) → Option Hint → List ℕ → List ℕ
bytes_with close status costs hint body = head_bytes status close costs hint (length body) ++ body

abbrev pub written : Bool → Reply → List ℕ
written close r = bytes_with close r.status r.costs r.hint (written_body r.body)

-- HTTP has a reason for its status, and its costs and what its hint says is left are within the cap.
pub record IsWritable (r : Reply) : Type 0 where
  pub status : status_text r.status ≢ []
  pub costs : IfSome r.costs AreCosts
  pub hint : IfSome r.hint IsHint

-- ---- what is replied

-- a message with a hint, if there is one, and with no costs
abbrev pub tells : Option Hint → ℕ → List ℕ → Reply
tells hint status message = record { status = status; costs = None; hint = hint; body = message_body message }

-- It says that, or there was no memory to say it.
abbrev pub Tells : Option Hint → ℕ → List ℕ → Reply → Type 0
Tells hint status message r = (r ≡ tells hint status message) ⊎ (r ≡ reply_as 500 None [])

-- there was a message to tell, or no memory for it
abbrev pub IsTold : {E : Type 0} → Option Hint → Result (List ℕ) E → ℕ → Reply → Type 0
IsTold hint (Ok message) status r = Tells hint status message r
IsTold hint (Err error) status r = r ≡ reply_as 500 None []

-- the reply to a denial
abbrev pub IsDenialReply : Option Hint → Denial → Reply → Type 0
IsDenialReply hint denial r = Tells hint (denial_status denial) (denial_text denial) r

-- what a finished request is answered, with its bound and its charge
abbrev pub finished_reply : Finished → Reply
finished_reply f = reply_as f.status (Some (f.bound, f.charged)) f.body

-- ---- what is replied where no request could be read

abbrev pub fault_status : FrontFault → ℕ
fault_status fault.BadHead = 400
fault_status fault.HeadTooLarge = 431
fault_status fault.NotFound = 404
fault_status fault.BadMethod = 405
fault_status fault.NoKey = 401
fault_status fault.Coded = 415
fault_status fault.BadMedia = 415
fault_status fault.Chunked = 501
fault_status fault.NoLength = 411
fault_status fault.BadLength = 400
fault_status (fault.BodyTooLarge length) = 413
fault_status (fault.Truncated missing) = 400
fault_status other = 500

abbrev pub fault_message : FrontFault → List ℕ
fault_message fault.BadHead = codes "BAD_HEAD"
fault_message fault.HeadTooLarge = codes "HEAD_TOO_LARGE"
fault_message fault.NotFound = codes "NOT_FOUND"
fault_message fault.BadMethod = codes "BAD_METHOD"
fault_message fault.NoKey = codes "NO_KEY"
fault_message fault.Coded = codes "CODED"
fault_message fault.BadMedia = codes "BAD_MEDIA"
fault_message fault.Chunked = codes "CHUNKED"
fault_message fault.NoLength = codes "NO_LENGTH"
fault_message fault.BadLength = codes "BAD_LENGTH"
fault_message (fault.BodyTooLarge length) = codes "BODY_TOO_LARGE " ++ decimal length
fault_message (fault.Truncated missing) = codes "TRUNCATED " ++ decimal missing
fault_message other = no_memory_text

-- Each fault is replied to, but for the end of the source and a source that failed.
abbrev pub IsFaultReply : FrontFault → Option Reply → Type 0
IsFaultReply fault.End r = r ≡ None
IsFaultReply fault.ReadFault r = r ≡ None
IsFaultReply f None = ⊥
IsFaultReply f (Some r) = Tells None (fault_status f) (fault_message f) r
