-- What an introspect command comes to.
use Rattle.std.specs.Prelude.{◌≡◌, ◌⊎◌, ◌++◌, ◌∷◌, ℕ, List, Err}
use Rattle.cost_num.specs.CostText.{cost_text}
use Rattle.document_reader.specs.declared.picking.PickFault.{PickFault}
use Rattle.document_reader.specs.Picking.{picked}
use Rattle.acceptance.specs.declared.fault.Refusal.TheVariants.{Pick}
use Rattle.acceptance.specs.Requests.{RequestData}
use Rattle.operation_class.specs.declared.classes.Class.TheVariants.{Upstream}
use Rattle.operation_class.specs.Routes.{IsPicked}
use Rattle.command_outcomes.specs.PassedOn.{Local, IsAnsweredHere, IsRefusedHere}
use Rattle.command_words.specs.declared.command.Asked.{Asked}
use Rattle.command_outcomes.specs.declared.outcome.Outcome.{Outcome}
use Rattle.command_outcomes.specs.Outcomes.{FilesTold, NoFileFailed, IsDone, IsRefusedAs, IsWanting}
use Rattle.command_outcomes.specs.Known.{AreKnownOf}
use Rattle.operation_commands.specs.declared.asked.AskedTexts.{AskedTexts}
use Rattle.operation_commands.specs.declared.asking.Inputs.{Inputs}
use Rattle.operation_commands.specs.declared.asking.AskedRefusal.TheVariants.{NoOperation}
use Rattle.operation_commands.specs.declared.own_answers.OwnRefusal.{OwnRefusal}
use Rattle.operation_commands.specs.declared.own_answers.OwnRefusal.TheVariants as refusal
use Rattle.operation_commands.specs.Asked.{HoldTexts, HaveNoTexts, HoldInputs, request_in, IsRefusalOf, IsUnreadOf}
use Rattle.operation_commands.specs.OwnAnswers.{own_text}

-- The operation of the texts is answered so from their schema.
abbrev pub HasAnswer : Asked → AskedTexts → Local → Type 0
HasAnswer asked texts answer = (inputs : Inputs) × HoldInputs asked texts inputs × IsAnsweredHere (AreKnownOf texts.schema) answer (request_in asked inputs)

-- the cost, and in the next line the answer
abbrev pub answer_lines : Local → List ℕ
answer_lines answer = cost_text answer.cost ++ (10 ∷ answer.text)

-- Why it isn't: the first reason in the order of the tests. One that none is picked of is refused for that; one that goes to the
-- upstream isn't for this command.
abbrev pub IsIntrospectRefusal : Asked → AskedTexts → OwnRefusal → Type 0
IsIntrospectRefusal asked texts (refusal.Asked (NoOperation r)) = IsUnreadOf asked texts r
    ⊎ ((inputs : Inputs) × HoldInputs asked texts inputs × ((fault : PickFault) × (picked asked.operation inputs.document.definitions.items ≡ Err fault) × (r ≡ Pick fault)))
IsIntrospectRefusal asked texts (refusal.Asked other) = IsRefusalOf asked texts other
IsIntrospectRefusal asked texts (refusal.NotAnswered fault) = (inputs : Inputs) × HoldInputs asked texts inputs × IsRefusedHere (AreKnownOf texts.schema) fault (request_in asked inputs)
IsIntrospectRefusal asked texts refusal.NotLocal = (inputs : Inputs) × HoldInputs asked texts inputs × ((place : ℕ) × IsPicked asked.operation inputs.document.definitions.items place Upstream)

-- By the texts: the answer is the output, or the operation is refused, or there was no memory, or it takes more steps than it may.
abbrev pub IntrospectOf : Asked → AskedTexts → Outcome → Type 0
IntrospectOf asked texts outcome = IsWanting asked.most_work outcome
    ⊎ ((answer : Local) × HasAnswer asked texts answer × IsDone (answer_lines answer) outcome)
    ⊎ ((r : OwnRefusal) × IsIntrospectRefusal asked texts r × IsRefusedAs (own_text asked r) outcome)

-- The files hold no texts; or they do, and came to that, and none failed.
abbrev pub IntrospectCameTo : Asked → FilesTold → Outcome → Type 0
IntrospectCameTo asked files outcome = HaveNoTexts asked files outcome
    ⊎ ((texts : AskedTexts) × HoldTexts asked files.content texts × IntrospectOf asked texts outcome × NoFileFailed files)

-- ---- what serves proofs

abbrev pub IsAnswerOf : AskedTexts → RequestData → Local → Type 0
IsAnswerOf texts r answer = IsAnsweredHere (AreKnownOf texts.schema) answer r

-- why a request isn't answered
abbrev pub IsUnansweredOf : AskedTexts → RequestData → OwnRefusal → Type 0
IsUnansweredOf texts r (refusal.Asked (NoOperation f)) = (fault : PickFault) × (picked r.name r.document ≡ Err fault) × (f ≡ Pick fault)
IsUnansweredOf texts r (refusal.Asked other) = ⊥
IsUnansweredOf texts r (refusal.NotAnswered fault) = IsRefusedHere (AreKnownOf texts.schema) fault r
IsUnansweredOf texts r refusal.NotLocal = (place : ℕ) × IsPicked r.name r.document place Upstream
