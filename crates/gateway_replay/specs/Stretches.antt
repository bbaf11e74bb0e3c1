-- How far a replay has come.
use Rattle.std.specs.Prelude.{◌≡◌, ℕ, ◌+◌, ◌<◌, ◌^◌, ◌==◌, if◌then◌else◌, Bool, true, List, [], ◌∷◌, ◌++◌, map, flat_map, string_bytes, ⊤}
use Rattle.std.specs.List.{AllByRecursion}
use Rattle.cost_num.specs.Within.{Within}
use Rattle.account_core.specs.Costs.{together, smaller}
use Rattle.account_core.specs.Machine.{Grant, grant}
use Rattle.account_shared.specs.Views.{PassesView, open_at}
use Rattle.account_shared.specs.Gains.{Gains}
use Rattle.replay_scripts.specs.Steps.{StepData, ReturnedData, reply, down, failed}
use Rattle.upstream_link.specs.declared.fault.LinkFault.TheVariants as link
use Rattle.gateway_core.specs.declared.finishing.Outcome.{Outcome}
use Rattle.gateway_core.specs.declared.finishing.Outcome.TheVariants.{Reply, Fault, NoMemory}
use Rattle.gateway_core.specs.Rules.{Rules, greatest}
use Rattle.gateway_core.specs.Begins.{HasCostsWithin}
use Rattle.gateway_replay.specs.declared.opened.Open.{Open}
use Rattle.gateway_replay.specs.declared.told.Told.{Told}
use Rattle.gateway_replay.specs.declared.told.Told.TheVariants.{Granted, Answered, Denied, Finished, NotOpen, Abandoned}
use Rattle.gateway_replay.specs.declared.replayed.Replayed.{Replayed}
use Rattle.gateway_replay.specs.Turns.{OpenRequest, open_request, How, ComesTo, calls_of_step, opens_past_step, Turn, step_of, calls_of, Runs, opens_after, abandoning}
use Rattle.gateway_replay.specs.Lines.{Line, line_for, id_of, told_of, line_text, is_granted, is_short, is_refused, charge_of, line_of_turn, line_of_abandoned, Reports}

abbrev pub request_of : Open → OpenRequest
request_of o = open_request o.id.now o.grant

abbrev pub requests_of : List Open → List OpenRequest
requests_of opens = map request_of opens

-- ---- one step

-- A step was taken: this is told of what came of it.
pub record IsTaken (rules : Rules) (before : PassesView) (opens : List OpenRequest) (step : StepData) (told : Told) (now : PassesView) (left : List OpenRequest) : Type 0 where
  pub how : How
  pub comes : ComesTo rules before.made opens step how
  pub calls : Gains before now (calls_of_step rules step how)
  pub left_are : left ≡ opens_past_step opens step how
  pub told_is : told ≡ told_of how

-- what is handed on of what the upstream made, or want of memory
abbrev pub IsOutcome : ReturnedData → Outcome → Type 0
IsOutcome returned NoMemory = ⊤
IsOutcome (reply body) (Reply copy) = copy.body.items ≡ body
IsOutcome down (Fault link.Down) = ⊤
IsOutcome failed (Fault link.Failed) = ⊤
IsOutcome _ _ = ⊥

-- the costs that are told are within the cap
abbrev pub HasCosts : Told → Type 0
HasCosts (Granted bound) = Within greatest bound
HasCosts (Answered answer) = Within greatest answer.charged
HasCosts (Denied why) = HasCostsWithin why
HasCosts (Finished answer) = Within greatest answer.charged
HasCosts NotOpen = ⊤
HasCosts (Abandoned bound) = Within greatest bound

-- ---- a line more

abbrev pub one_if : Bool → ℕ
one_if such = if such then 1 else 0

-- the report has come so far that a line may be added
pub record HasRoom (report : Replayed) : Type 0 where
  pub granted : report.granted < 2 ^ 63
  pub short : report.short < 2 ^ 63
  pub refused : report.refused < 2 ^ 63
  pub charged : Within greatest report.charged

pub record Counts (told : Told) (old new : Replayed) : Type 0 where
  pub steps : new.steps ≡ old.steps
  pub granted : new.granted ≡ old.granted + one_if (is_granted told)
  pub short : new.short ≡ old.short + one_if (is_short told)
  pub refused : new.refused ≡ old.refused + one_if (is_refused told)
  pub charged : new.charged ≡ smaller greatest (together old.charged (charge_of told))

pub record AddsLine (line : Line) (old new : Replayed) : Type 0 where
  pub written : string_bytes new.lines ≡ string_bytes old.lines ++ line_text line
  pub counts : Counts line.told old new

-- behind any lines, these were added
pub record AddsLines (more : List Line) (old new : Replayed) : Type 0 where
  pub steps : new.steps ≡ old.steps
  pub reports : (lines : List Line) → Reports lines old → Reports (lines ++ more) new

-- a step was taken, and its line added where it is told
abbrev pub TakesStep : Rules → PassesView → List OpenRequest → StepData → Replayed → PassesView → List OpenRequest → Replayed → Bool → Type 0
TakesStep rules before opens step old now left new is_told =
    (told : Told) × IsTaken rules before opens step told now left × (is_told ≡ true → AddsLine (line_for (id_of step) told) old new)

-- ---- what is open in passes

-- a client's grants among those of open requests
abbrev pub grants_at : ℕ → ℕ → List OpenRequest → List Grant
grants_at name client [] = []
grants_at name client (r ∷ rs) =
    if r.grant.ticket.client == client
    then grant name r.grant.ticket.seq r.grant.ticket.window r.grant.ticket.bound ∷ grants_at name client rs
    else grants_at name client rs

abbrev pub IsBefore : ℕ → OpenRequest → Type 0
IsBefore number request = request.grant.ticket.seq < number

abbrev pub IsBehind : ℕ → OpenRequest → Type 0
IsBehind number request = number < request.grant.ticket.seq

-- the numbers of their reservations rise
abbrev pub AreRising : List OpenRequest → Type 0
AreRising [] = ⊤
AreRising (r ∷ rs) = AllByRecursion (IsBehind r.grant.ticket.seq) rs × AreRising rs

-- just the grants of these requests are open in these passes
pub record JustOpen (p : PassesView) (opens : List OpenRequest) : Type 0 where
  pub before : AllByRecursion (IsBefore p.made) opens
  pub rising : AreRising opens
  pub open_are : (client : ℕ) → open_at p client ≡ grants_at p.label.name client opens

-- ---- several steps

-- Through these steps: the turns that were taken, in front of the rest, and the requests that are open now. While all is told
-- nothing is left of the steps, and the report has a line for each turn.
pub record RunsTo (rules : Rules) (before now : PassesView) (steps : List StepData) (opens : List OpenRequest) (report : Replayed) (told : Bool) : Type 0 where
  pub turns : List Turn
  pub rest : List StepData
  pub steps_are : steps ≡ map step_of turns ++ rest
  pub runs : Runs rules before.made [] turns
  pub opens_are : opens ≡ opens_after [] turns
  pub calls : Gains before now (flat_map (calls_of rules) turns)
  pub all_taken : told ≡ true → rest ≡ []
  pub reports : told ≡ true → Reports (map line_of_turn turns) report

-- Of the requests that were left open, so many are settled, with a line for each while lines found memory; the rest is open.
pub record Abandons (before now : PassesView) (all rest : List OpenRequest) (old new : Replayed) (told_before told : Bool) : Type 0 where
  pub ended : List OpenRequest
  pub whole : all ≡ ended ++ rest
  pub calls : Gains before now (map abandoning ended)
  pub just : JustOpen now rest
  pub told_then : told ≡ true → told_before ≡ true
  pub lines : told ≡ true → AddsLines (map line_of_abandoned ended) old new
  pub room : told ≡ true → HasRoom new
