-- What an explain command comes to.
use Rattle.std.specs.Prelude.{◌≡◌, ◌⊎◌, ℕ, List, ◌++◌, codes, Option, None, IsSome}
use Rattle.cost_num.specs.declared.Cost.{Cost}
use Rattle.cost_num.specs.CostText.{cost_text}
use Rattle.plan_table.specs.declared.table.Plan.{Plan}
use Rattle.cost_tables.specs.Tables.{IsPriceOf, IsTable}
use Rattle.told_refusals.specs.Told.{Spot, Tells}
use Rattle.command_words.specs.declared.command.Asked.{Asked}
use Rattle.acceptance.specs.Requests.{RequestData}
use Rattle.acceptance.specs.Bounds.{IsAccepted}
use Rattle.operation_class.specs.Routes.{GoesUpstream}
use Rattle.command_outcomes.specs.PassedOn.{Local, IsAnsweredHere}
use Rattle.command_outcomes.specs.declared.outcome.Outcome.{Outcome}
use Rattle.command_outcomes.specs.declared.outcome.Outcome.TheVariants.{Refused, Memory}
use Rattle.command_outcomes.specs.Known.{AreKnownOf}
use Rattle.command_outcomes.specs.Outcomes.{FilesTold, NoFileFailed, IsDone}
use Rattle.counted_work.specs.Counted.{work_text}
use Rattle.operation_commands.specs.declared.asked.AskedTexts.{AskedTexts}
use Rattle.operation_commands.specs.declared.asking.Inputs.{Inputs}
use Rattle.operation_commands.specs.declared.own_answers.OwnRefusal.{OwnRefusal}
use Rattle.operation_commands.specs.Asked.{HoldTexts, HaveNoTexts, HoldInputs, request_in}
use Rattle.operation_commands.specs.OwnAnswers.{own_text}
use Rattle.operation_commands.specs.Price.{IsPriceRefusal}
use Rattle.operation_commands.specs.Places.{IsSpotIn}
use Rattle.operation_commands.specs.Steps.{AreSteps, steps_text}

-- what is said of an operation that asks for the schema
abbrev pub own_price_text : Cost → List ℕ
own_price_text cost = codes "answered from the schema: " ++ cost_text cost

-- The request is accepted, and the text is the table of its plan, whose bound is the price.
abbrev pub TablesPlan : RequestData → List ℕ → Type 0
TablesPlan r text = (plan : Plan) × (price : Cost) × IsAccepted r plan price × IsPriceOf plan price × IsTable plan price text

-- The operation goes to the upstream, and the text is the table of its plan; or it is answered from the schema, and the text tells at
-- what cost.
abbrev pub IsExplainedAs : AskedTexts → RequestData → List ℕ → Type 0
IsExplainedAs texts r text = (GoesUpstream r.name r.document × TablesPlan r text)
    ⊎ ((answer : Local) × IsAnsweredHere (AreKnownOf texts.schema) answer r × (text ≡ own_price_text answer.cost))

-- The text explains the price of the operation of the texts.
abbrev pub IsExplained : Asked → AskedTexts → List ℕ → Type 0
IsExplained asked texts text = (inputs : Inputs) × HoldInputs asked texts inputs × IsExplainedAs texts (request_in asked inputs) text

-- It was refused with this line, and told where it is; or there was no memory.
abbrev pub IsRefusedTelling : List ℕ → (Option Spot → Type 0) → Outcome → Type 0
IsRefusedTelling line IsSpot (Refused told) = (spot : Option Spot) × IsSpot spot × Tells line spot told
IsRefusedTelling line IsSpot Memory = Unit {0}
IsRefusedTelling line IsSpot other = ⊥

-- What was refused before its texts were looked at is told with what helps; any other outcome is told as it is.
abbrev pub TellsUnread : Outcome → Outcome → Type 0
TellsUnread (Refused line) told = IsRefusedTelling line (λ spot. spot ≡ None) told
TellsUnread unread told = told ≡ unread

-- It has no price, and the text tells why, and where.
abbrev pub IsExplainRefused : Asked → AskedTexts → Outcome → Type 0
IsExplainRefused asked texts outcome = (r : OwnRefusal) × IsPriceRefusal asked texts r × IsRefusedTelling (own_text asked r) (IsSpotIn texts r) outcome

-- There was no memory; or it was told that the operation takes more steps than it may, where a number of them was given.
abbrev pub IsWantingTold : Option ℕ → Outcome → Type 0
IsWantingTold most outcome = (outcome ≡ Memory) ⊎ (IsSome most × IsRefusedTelling work_text (λ spot. spot ≡ None) outcome)

-- The output is the text that explains the price, and how many steps it took, where a number of them was given.
abbrev pub IsExplainDone : Option ℕ → List ℕ → Outcome → Type 0
IsExplainDone most text outcome = (steps : Option ℕ) × AreSteps most steps × IsDone (text ++ steps_text (codes "\n") steps) outcome

-- By the texts: its price is explained, or it is told why it has none, or there was no memory, or it takes more steps than it may.
abbrev pub ExplainOf : Asked → AskedTexts → Outcome → Type 0
ExplainOf asked texts outcome = IsWantingTold asked.most_work outcome
    ⊎ ((text : List ℕ) × IsExplained asked texts text × IsExplainDone asked.most_work text outcome)
    ⊎ IsExplainRefused asked texts outcome

-- The files hold no texts, as for a price; or they do, and came to that, and none failed.
abbrev pub ExplainCameTo : Asked → FilesTold → Outcome → Type 0
ExplainCameTo asked files outcome = ((unread : Outcome) × HaveNoTexts asked files unread × TellsUnread unread outcome)
    ⊎ ((texts : AskedTexts) × HoldTexts asked files.content texts × ExplainOf asked texts outcome × NoFileFailed files)
