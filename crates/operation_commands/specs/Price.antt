-- What a price command comes to.
use Rattle.std.specs.Prelude.{◌≡◌, ◌⊎◌}
use Rattle.cost_num.specs.declared.Cost.{Cost}
use Rattle.cost_num.specs.CostText.{cost_text}
use Rattle.static_cost.specs.CostBound.{IsWithin}
use Rattle.plan_table.specs.declared.table.Plan.{Plan}
use Rattle.command_words.specs.declared.command.Asked.{Asked}
use Rattle.acceptance.specs.Requests.{RequestData}
use Rattle.acceptance.specs.Bounds.{IsAccepted}
use Rattle.acceptance.specs.Refusals.{IsRefusedFor}
use Rattle.operation_class.specs.Routes.{GoesUpstream}
use Rattle.command_outcomes.specs.PassedOn.{Local, IsAnsweredHere, IsRefusedHere}
use Rattle.operation_commands.specs.declared.asking.AskedRefusal.TheVariants.{NoOperation}
use Rattle.operation_commands.specs.declared.own_answers.OwnRefusal.{OwnRefusal}
use Rattle.operation_commands.specs.declared.own_answers.OwnRefusal.TheVariants as refusal
use Rattle.operation_commands.specs.OwnAnswers.{own_text}
use Rattle.operation_commands.specs.declared.asked.AskedTexts.{AskedTexts}
use Rattle.operation_commands.specs.declared.asking.Inputs.{Inputs}
use Rattle.command_outcomes.specs.declared.outcome.Outcome.{Outcome}
use Rattle.command_outcomes.specs.Outcomes.{FilesTold, NoFileFailed, IsDone, IsRefusedAs, IsWanting}
use Rattle.command_outcomes.specs.Known.{AreKnownOf}
use Rattle.operation_commands.specs.Asked.{HoldTexts, HaveNoTexts, HoldInputs, request_in, IsRefusalOf, IsUnreadOf}

-- The operation goes to the upstream and is accepted with this bound, or it is answered from the schema at this cost.
abbrev pub IsPricedAs : AskedTexts → RequestData → Cost → Type 0
IsPricedAs texts r cost = (GoesUpstream r.name r.document × ((plan : Plan) × IsAccepted r plan cost))
    ⊎ ((answer : Local) × IsAnsweredHere (AreKnownOf texts.schema) answer r × (answer.cost ≡ cost))

-- The operation of the texts has this price.
abbrev pub HasPrice : Asked → AskedTexts → Cost → Type 0
HasPrice asked texts cost = (inputs : Inputs) × HoldInputs asked texts inputs × IsPricedAs texts (request_in asked inputs) cost

-- The operation of the texts is accepted with this bound, by whom it may be answered.
abbrev pub HasBound : Asked → AskedTexts → Cost → Type 0
HasBound asked texts cost = (inputs : Inputs) × HoldInputs asked texts inputs × ((plan : Plan) × IsAccepted (request_in asked inputs) plan cost)

-- Why it has none: the first reason in the order of the tests. An operation that goes to the upstream is refused as any is; another
-- one since it isn't answered.
abbrev pub IsPriceRefusal : Asked → AskedTexts → OwnRefusal → Type 0
IsPriceRefusal asked texts (refusal.Asked (NoOperation r)) = IsUnreadOf asked texts r
    ⊎ ((inputs : Inputs) × HoldInputs asked texts inputs × GoesUpstream asked.operation inputs.document.definitions.items × IsRefusedFor (request_in asked inputs) r)
IsPriceRefusal asked texts (refusal.Asked other) = IsRefusalOf asked texts other
IsPriceRefusal asked texts (refusal.NotAnswered fault) = (inputs : Inputs) × HoldInputs asked texts inputs × IsRefusedHere (AreKnownOf texts.schema) fault (request_in asked inputs)
IsPriceRefusal asked texts refusal.NotLocal = ⊥

-- It has none, and the text says why.
abbrev pub IsPriceRefused : Asked → AskedTexts → Outcome → Type 0
IsPriceRefused asked texts outcome = (r : OwnRefusal) × IsPriceRefusal asked texts r × IsRefusedAs (own_text asked r) outcome

-- By the texts: the price is within the cap and is the output, or the operation is refused, or there was no memory, or it takes more steps than
-- it may.
abbrev pub PriceOf : Asked → AskedTexts → Outcome → Type 0
PriceOf asked texts outcome = IsWanting asked.most_work outcome
    ⊎ ((cost : Cost) × HasPrice asked texts cost × IsWithin cost × IsDone (cost_text cost) outcome)
    ⊎ IsPriceRefused asked texts outcome

-- The files hold no texts; or they do, and came to that, and none failed.
abbrev pub PriceCameTo : Asked → FilesTold → Outcome → Type 0
PriceCameTo asked files outcome = HaveNoTexts asked files outcome
    ⊎ ((texts : AskedTexts) × HoldTexts asked files.content texts × PriceOf asked texts outcome × NoFileFailed files)

-- ---- what serves proofs

-- What is asked of the upstream is refused, for this reason.
abbrev pub IsNoPriceOf : RequestData → OwnRefusal → Type 0
IsNoPriceOf r (refusal.Asked (NoOperation f)) = IsRefusedFor r f
IsNoPriceOf r other = ⊥

-- why a request has no price
abbrev pub IsUnpricedAs : AskedTexts → RequestData → OwnRefusal → Type 0
IsUnpricedAs texts r (refusal.Asked (NoOperation f)) = GoesUpstream r.name r.document × IsRefusedFor r f
IsUnpricedAs texts r (refusal.NotAnswered fault) = IsRefusedHere (AreKnownOf texts.schema) fault r
IsUnpricedAs texts r other = ⊥
