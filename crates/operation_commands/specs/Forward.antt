-- What a forward command comes to.
use Rattle.std.specs.Prelude.{◌≡◌, ◌⊎◌, ℕ, List}
use Rattle.cost_num.specs.declared.Cost.{Cost}
use Rattle.plan_table.specs.declared.table.Plan.{Plan}
use Rattle.command_words.specs.declared.command.Asked.{Asked}
use Rattle.acceptance.specs.Bounds.{IsAccepted}
use Rattle.acceptance.specs.Forwarding.{IsFreeIn, IsGivenAsRead, IsSentText}
use Rattle.operation_commands.specs.declared.asked.AskedTexts.{AskedTexts}
use Rattle.operation_commands.specs.declared.asking.Inputs.{Inputs}
use Rattle.command_outcomes.specs.declared.outcome.Outcome.{Outcome}
use Rattle.command_outcomes.specs.Outcomes.{FilesTold, NoFileFailed, IsDone, IsWanting}
use Rattle.operation_commands.specs.Asked.{HoldTexts, HaveNoTexts, HoldInputs, request_in, IsAskedRefused}

-- The operation is accepted, and this is a text of the body that is sent for it.
abbrev pub IsSent : Asked → AskedTexts → List ℕ → Type 0
IsSent asked texts text = (inputs : Inputs) × HoldInputs asked texts inputs
    × ((plan : Plan) × (bound : Cost) × (accepted : IsAccepted (request_in asked inputs) plan bound)
    × ((alias : List ℕ) × IsFreeIn (request_in asked inputs) alias × IsSentText (request_in asked inputs) accepted.is_planned.prepared alias text))

-- What the texts give for the variables comes from a reader, and leaves a level of nesting to the body.
abbrev pub AreGivenAsRead : Asked → AskedTexts → Type 0
AreGivenAsRead asked texts = (inputs : Inputs) → HoldInputs asked texts inputs → IsGivenAsRead (request_in asked inputs).given

-- By the texts: what is sent is the output, or the operation is refused, or there was no memory, or it takes more steps than it may.
abbrev pub ForwardOf : Asked → AskedTexts → Outcome → Type 0
ForwardOf asked texts outcome = IsWanting asked.most_work outcome
    ⊎ ((text : List ℕ) × IsSent asked texts text × IsDone text outcome)
    ⊎ IsAskedRefused asked texts outcome

-- The files hold no texts; or they do, and came to that, and none failed.
abbrev pub ForwardCameTo : Asked → FilesTold → Outcome → Type 0
ForwardCameTo asked files outcome = HaveNoTexts asked files outcome
    ⊎ ((texts : AskedTexts) × HoldTexts asked files.content texts × ForwardOf asked texts outcome × NoFileFailed files)
