-- What a meter command comes to.
use Rattle.std.specs.Prelude.{◌≡◌, ◌≢◌, ◌⊎◌, ◌<◌, ◌≤◌, ◌++◌, ◌∷◌, ℕ, List, Option, length}
use Rattle.cost_num.specs.declared.Cost.{Cost}
use Rattle.cost_num.specs.CostText.{cost_text}
use Rattle.response_model.specs.Plan.{Plan as PlanTree}
use Rattle.plan_table.specs.declared.table.Plan.{Plan}
use Rattle.command_words.specs.declared.command.Asked.{Asked}
use Rattle.acceptance.specs.Requests.{plan_tree}
use Rattle.acceptance.specs.Bounds.{IsAccepted}
use Rattle.acceptance.specs.Forwarding.{IsFreeIn}
use Rattle.response_meter.specs.declared.metered.Metered.{Metered}
use Rattle.response_meter.specs.declared.fault.MeterFault.{MeterFault}
use Rattle.response_meter.specs.declared.fault.MeterFault.TheVariants.{NotResponse, SizeBroken, Memory as MeterMemory}
use Rattle.response_meter.specs.Faults.{Tells}
use Rattle.response_meter.specs.Metered.{IsMetered, first_fault_in}
use Rattle.command_outcomes.specs.declared.limits.TheConstants.{REPLY_LIMIT}
use Rattle.operation_commands.specs.declared.asked.AskedTexts.{AskedTexts}
use Rattle.operation_commands.specs.declared.asking.Inputs.{Inputs}
use Rattle.command_outcomes.specs.declared.outcome.Outcome.{Outcome}
use Rattle.command_outcomes.specs.declared.outcome.Outcome.TheVariants.{Memory}
use Rattle.command_outcomes.specs.Statuses.{SIZE_BROKEN, NOT_RESPONSE, NO_MEMORY}
use Rattle.operation_commands.specs.ReplyTexts.{meter_text}
use Rattle.command_outcomes.specs.Texts.{too_large_text}
use Rattle.command_outcomes.specs.Reading.{IsRead}
use Rattle.command_outcomes.specs.Outcomes.{FilesTold, NoFileFailed, IsStopped, IsDone, IsRefusedAs, IsFaultyAs, IsWanting}
use Rattle.operation_commands.specs.Asked.{HoldTexts, HoldOperation, HaveNoOperation, HasNoVariables, HoldInputs, request_in, IsAskedRefused}

-- ---- the files

-- The reply file is these bytes, within its limit.
abbrev pub IsReply : Option (List ℕ) → List ℕ → Type 0
IsReply content bytes = IsRead REPLY_LIMIT content bytes × (length bytes ≤ REPLY_LIMIT)

abbrev pub HoldsReply : Option (List ℕ) → Type 0
HoldsReply content = (bytes : List ℕ) × IsReply content bytes

-- The reply file was not read; or it is longer than its limit, and no other failed before that was told.
abbrev pub HasNoReply : List ℕ → FilesTold → Outcome → Type 0
HasNoReply name files outcome = IsStopped (λ other. other ≡ name) files outcome
    ⊎ ((bytes : List ℕ) × IsRead REPLY_LIMIT (files.content name) bytes × (REPLY_LIMIT < length bytes) × IsRefusedAs (too_large_text name) outcome
    × NoFileFailed files)

-- The first of the files that was not read, or doesn't hold what it must: the schema, the document, the reply, the variables.
abbrev pub HaveNoMetering : Asked → List ℕ → FilesTold → Outcome → Type 0
HaveNoMetering asked reply files outcome = HaveNoOperation asked files outcome
    ⊎ (HoldOperation asked files.content × HasNoReply reply files outcome)
    ⊎ (HoldOperation asked files.content × HoldsReply (files.content reply) × HasNoVariables asked.variables files outcome)

-- ---- the reply

-- the measured cost, and the answer text on the next line
abbrev pub measure_text : Metered → List ℕ
measure_text metered = cost_text metered.cost ++ (10 ∷ metered.text)

-- the status of a fault of a reply
abbrev pub status_of : MeterFault → ℕ
status_of (NotResponse path why) = NOT_RESPONSE
status_of (SizeBroken path size length) = SIZE_BROKEN
status_of MeterMemory = NO_MEMORY

-- The status and the text are those of the fault.
abbrev pub IsReplyFault : MeterFault → Outcome → Type 0
IsReplyFault fault outcome = IsFaultyAs (status_of fault) (meter_text fault) outcome

-- This is the first test that the reply doesn't pass; want of memory is none.
abbrev pub IsFirstFault : Plan → List ℕ → PlanTree → List ℕ → MeterFault → Type 0
IsFirstFault plan alias tree reply fault = Tells fault (first_fault_in plan alias tree reply) × (fault ≢ MeterMemory)

-- A reply to this plan is measured, or doesn't pass a test, or there was no memory.
abbrev pub MeterOfPlan : Plan → List ℕ → PlanTree → List ℕ → Outcome → Type 0
MeterOfPlan plan alias tree reply outcome = (outcome ≡ Memory)
    ⊎ ((metered : Metered) × IsMetered plan alias tree reply metered × IsDone (measure_text metered) outcome)
    ⊎ ((fault : MeterFault) × IsFirstFault plan alias tree reply fault × IsReplyFault fault outcome)

-- The operation of the texts is accepted, and this holds of its plan, of the alias with which it is sent, and of the plan's tree.
abbrev pub OfAccepted : Asked → AskedTexts → (Plan → List ℕ → PlanTree → Type 0) → Type 0
OfAccepted asked texts P = (inputs : Inputs) × HoldInputs asked texts inputs
    × ((plan : Plan) × (bound : Cost) × (accepted : IsAccepted (request_in asked inputs) plan bound) × (plan.schema.now ≡ inputs.weighed.schema)
    × ((alias : List ℕ) × IsFreeIn (request_in asked inputs) alias × P plan alias (plan_tree (request_in asked inputs) accepted.is_planned.prepared)))

-- The reply is measured so.
abbrev pub HasMeasure : Asked → AskedTexts → List ℕ → Metered → Type 0
HasMeasure asked texts reply metered = OfAccepted asked texts (λ plan alias tree. IsMetered plan alias tree reply metered)

-- The reply has this first fault.
abbrev pub HasReplyFault : Asked → AskedTexts → List ℕ → MeterFault → Type 0
HasReplyFault asked texts reply fault = OfAccepted asked texts (λ plan alias tree. IsFirstFault plan alias tree reply fault)

-- The operation is accepted, and its reply came to that. The names of types stand in it under the alias.
abbrev pub MeterOfAccepted : Asked → AskedTexts → List ℕ → Outcome → Type 0
MeterOfAccepted asked texts reply outcome = OfAccepted asked texts (λ plan alias tree. MeterOfPlan plan alias tree reply outcome)

-- By the texts and the reply: the operation is accepted, and its reply measured or faulty; or it is refused, or there was no memory,
-- or it takes more steps than it may.
abbrev pub MeterOf : Asked → AskedTexts → List ℕ → Outcome → Type 0
MeterOf asked texts reply outcome = IsWanting asked.most_work outcome ⊎ MeterOfAccepted asked texts reply outcome ⊎ IsAskedRefused asked texts outcome

-- The files don't hold what they must; or they do, and came to that, and none failed. So a reply that is too large is told before
-- anything of the operation.
abbrev pub MeterCameTo : Asked → List ℕ → FilesTold → Outcome → Type 0
MeterCameTo asked reply files outcome = HaveNoMetering asked reply files outcome
    ⊎ ((texts : AskedTexts) × (bytes : List ℕ) × HoldTexts asked files.content texts × IsReply (files.content reply) bytes × MeterOf asked texts bytes outcome
    × NoFileFailed files)
