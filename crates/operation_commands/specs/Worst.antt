-- What a worst command comes to.
use Rattle.std.specs.Prelude.{◌≡◌, ◌⊎◌, ◌≤◌, ◌<◌, [], Some, codes}
use Rattle.cost_num.specs.declared.Cost.{Cost}
use Rattle.response_model.specs.Plan.{Plan as PlanTree}
use Rattle.response_model.specs.Response.{Tree}
use Rattle.response_model.specs.Filled.{filled}
use Rattle.response_model.specs.ResponseText.{response_text}
use Rattle.plan_table.specs.declared.table.Plan.{Plan}
use Rattle.response_model.specs.declared.part.Part.{Part}
use Rattle.static_cost.specs.declared.filling.TheConstants.{VALUE_LIMIT}
use Rattle.response_model.specs.Components.{part_of}
use Rattle.static_cost.specs.CostBound.{Attains}
use Rattle.static_cost.specs.Worst.{values}
use Rattle.command_words.specs.declared.command.Asked.{Asked}
use Rattle.acceptance.specs.Requests.{RequestData, Prepared, setting, plan_tree}
use Rattle.acceptance.specs.Bounds.{IsAccepted}
use Rattle.operation_commands.specs.declared.asked.AskedTexts.{AskedTexts}
use Rattle.operation_commands.specs.declared.asking.Inputs.{Inputs}
use Rattle.command_outcomes.specs.declared.outcome.Outcome.{Outcome}
use Rattle.command_outcomes.specs.declared.outcome.Outcome.TheVariants.{Memory}
use Rattle.command_outcomes.specs.Outcomes.{FilesTold, NoFileFailed, IsDone, IsRefusedAs, IsWanting}
use Rattle.operation_commands.specs.Asked.{HoldTexts, HaveNoTexts, HoldInputs, request_in, IsAskedRefused}

-- The operation of the texts is accepted, and this holds of its plan.
abbrev pub OfPlan : Asked → AskedTexts → (PlanTree → Type 0) → Type 0
OfPlan asked texts P = (inputs : Inputs) × HoldInputs asked texts inputs
    × ((plan : Plan) × (bound : Cost) × (accepted : IsAccepted (request_in asked inputs) plan bound) × P (plan_tree (request_in asked inputs) accepted.is_planned.prepared))

-- the response that costs as much as any in this part of the cost
abbrev pub worst_tree : Part → PlanTree → Tree
worst_tree part tree = filled (part_of part) tree

-- The response to this plan is the output, where it has no more values than the limit, or it is too large; or there was no memory.
abbrev pub WorstOfTree : Part → PlanTree → Outcome → Type 0
WorstOfTree part tree outcome = (outcome ≡ Memory)
    ⊎ ((values (worst_tree part tree) ≤ VALUE_LIMIT) × IsDone (response_text (Some (worst_tree part tree)) []) outcome)
    ⊎ ((VALUE_LIMIT < values (worst_tree part tree)) × IsRefusedAs (codes "worst 1 TooLarge") outcome)

-- That response answers the operation, keeps its declared sizes, and costs just what the bound says in this part.
abbrev pub IsWorstFor : (r : RequestData) → Prepared r → Cost → Part → Type 0
IsWorstFor r p bound part = Attains (setting r p) p.root p.operation (part_of part) bound (worst_tree part (plan_tree r p))

-- The operation is accepted with this bound, and came to that.
abbrev pub WorstOfAccepted : Asked → Part → AskedTexts → Outcome → Type 0
WorstOfAccepted asked part texts outcome = (inputs : Inputs) × HoldInputs asked texts inputs
    × ((plan : Plan) × (bound : Cost) × (accepted : IsAccepted (request_in asked inputs) plan bound)
    × WorstOfTree part (plan_tree (request_in asked inputs) accepted.is_planned.prepared) outcome
    × IsWorstFor (request_in asked inputs) accepted.is_planned.prepared bound part)

-- By the texts: the operation is accepted, and its response told or too large; or it is refused, or there was no memory, or it takes
-- more steps than it may.
abbrev pub WorstOf : Asked → Part → AskedTexts → Outcome → Type 0
WorstOf asked part texts outcome = IsWanting asked.most_work outcome ⊎ WorstOfAccepted asked part texts outcome ⊎ IsAskedRefused asked texts outcome

-- The files hold no texts; or they do, and came to that, and none failed.
abbrev pub WorstCameTo : Asked → Part → FilesTold → Outcome → Type 0
WorstCameTo asked part files outcome = HaveNoTexts asked files outcome
    ⊎ ((texts : AskedTexts) × HoldTexts asked files.content texts × WorstOf asked part texts outcome × NoFileFailed files)
