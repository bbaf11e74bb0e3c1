-- The statuses and messages of what is answered without a response.
use Rattle.std.specs.Prelude.{ℕ, List, [], ◌∷◌, ◌++◌, None, codes}
use Rattle.std.specs.Fmt.{decimal}
use Rattle.cost_num.specs.CostText.{cost_text}
use Rattle.counted_work.specs.Counted.{work_text}
use Rattle.response_model.specs.Errors.{pathless}
use Rattle.response_model.specs.ResponseText.{response_text}
use Rattle.response_meter.specs.declared.fault.MeterFault.{MeterFault}
use Rattle.response_meter.specs.declared.fault.MeterFault.TheVariants as meter
use Rattle.response_meter.specs.Faults.{why_name}
use Rattle.upstream_link.specs.declared.fault.LinkFault.{LinkFault}
use Rattle.upstream_link.specs.declared.fault.LinkFault.TheVariants as link
use Rattle.trusted_documents.specs.FaultTexts.{expand_fault_text}
use Rattle.request_bodies.specs.FaultTexts.{fault_text}
use Rattle.local_introspection.specs.PassedOn.{refusal_text}
use Rattle.local_introspection.specs.LocalTexts.{local_text}
use Rattle.gateway_core.specs.declared.beginning.Denial.{Denial}
use Rattle.gateway_core.specs.declared.beginning.Denial.TheVariants.{UnknownKey, Unexpanded, BadBody, Refused, NotLocal, Short, Full, Work, Memory}

-- the body that tells a message: a response with one error and no data
abbrev pub message_body : List ℕ → List ℕ
message_body message = response_text None (pathless message ∷ [])

abbrev pub no_memory_text : List ℕ
no_memory_text = codes "NO_MEMORY"

-- ---- why a request is denied

abbrev pub denial_status : Denial → ℕ
denial_status UnknownKey = 401
denial_status (Unexpanded fault) = 400
denial_status (BadBody fault) = 400
denial_status (Refused refusal) = 400
denial_status (NotLocal fault) = 400
denial_status (Short left bound) = 429
denial_status Full = 503
denial_status Work = 400
denial_status Memory = 500

abbrev pub denial_text : Denial → List ℕ
denial_text UnknownKey = codes "UNKNOWN_KEY"
denial_text (Unexpanded fault) = codes "REFUSED " ++ expand_fault_text fault
denial_text (BadBody fault) = codes "REFUSED " ++ fault_text fault
denial_text (Refused refusal) = codes "REFUSED " ++ refusal_text refusal
denial_text (NotLocal fault) = codes "REFUSED " ++ local_text fault
denial_text (Short left bound) = codes "OVER_BUDGET left " ++ (cost_text left ++ (codes " bound " ++ cost_text bound))
denial_text Full = codes "JOURNAL_FULL"
denial_text Work = codes "REFUSED " ++ work_text
denial_text Memory = no_memory_text

-- ---- why there is no reply of the upstream

abbrev pub link_status : LinkFault → ℕ
link_status link.Down = 503
link_status link.Memory = 500
link_status fault = 502

abbrev pub link_text : LinkFault → List ℕ
link_text link.Down = codes "UPSTREAM_DOWN"
link_text link.Failed = codes "UPSTREAM_FAILED"
link_text link.BadReplyHead = codes "BAD_UPSTREAM 3 BadReplyHead"
link_text link.Coded = codes "BAD_UPSTREAM 4 Coded"
link_text link.TooLarge = codes "BAD_UPSTREAM 5 TooLarge"
link_text link.Truncated = codes "BAD_UPSTREAM 6 Truncated"
link_text link.BadChunk = codes "BAD_UPSTREAM 7 BadChunk"
link_text link.Memory = no_memory_text

-- ---- what is wrong with the upstream's reply

abbrev pub reply_text : MeterFault → List ℕ
reply_text (meter.NotResponse path reason) = codes "NOT_RESPONSE " ++ (path ++ (32 ∷ why_name reason))
reply_text (meter.SizeBroken path size length) = codes "SIZE_BROKEN " ++ (path ++ (32 ∷ (decimal size ++ (32 ∷ decimal length))))
reply_text meter.Memory = no_memory_text
