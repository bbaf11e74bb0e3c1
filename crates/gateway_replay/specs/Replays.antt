-- Whole replays.
use Rattle.std.specs.Prelude.{◌≡◌, ℕ, ◌<◌, List, [], ◌++◌, map, length, get_or, flat_map}
use Rattle.account_core.specs.History.{IsLegal}
use Rattle.account_shared.specs.Views.{PassesView}
use Rattle.account_shared.specs.Gains.{ClientCall, entries_for, Gains}
use Rattle.client_files.specs.declared.client.Client.{Client}
use Rattle.replay_scripts.specs.Steps.{StepData}
use Rattle.gateway_core.specs.Rules.{Rules, client_limit}
pub use Rattle.gateway_core.specs.Fresh.{AreFresh}
use Rattle.gateway_replay.specs.declared.replayed.Replayed.{Replayed}
use Rattle.gateway_replay.specs.Turns.{Turn, step_of, calls_of, Runs, opens_after, abandoning}
use Rattle.gateway_replay.specs.Lines.{all_lines, Reports}

-- the calls of the turns, and then the settlement of each request that is left open, in the order in which they began
abbrev pub all_calls : Rules → List Turn → List ClientCall
all_calls rules turns = flat_map (calls_of rules) turns ++ map abandoning (opens_after [] turns)

-- The report is of turns of this script's steps, after so many calls and with nothing open before the first.
pub record IsReportOf (rules : Rules) (made : ℕ) (script : List StepData) (turns : List Turn) (report : Replayed) : Type 0 where
  pub steps_are : map step_of turns ≡ script
  pub runs : Runs rules made [] turns
  pub reports : Reports (all_lines turns) report
  pub steps : report.steps ≡ length script

-- A script was replayed through passes: the calls of its turns were made, and nothing else.
pub record Replays (rules : Rules) (before : PassesView) (script : List StepData) (report : Replayed) (now : PassesView) : Type 0 where
  pub turns : List Turn
  pub is_report : IsReportOf rules before.made script turns report
  pub calls : Gains before now (all_calls rules turns)

-- A replay of a script stopped: turns of its first steps were taken, and none of the rest. What was open then was settled.
pub record Stops (rules : Rules) (before : PassesView) (script : List StepData) (now : PassesView) : Type 0 where
  pub turns : List Turn
  pub rest : List StepData
  pub steps_are : script ≡ map step_of turns ++ rest
  pub runs : Runs rules before.made [] turns
  pub calls : Gains before now (all_calls rules turns)

-- whatever was called
abbrev pub Called : PassesView → PassesView → Type 0
Called before now = (calls : List ClientCall) × Gains before now calls

-- The report of a script over fresh accounts: the calls of its turns are, client by client, a legal history from its beginning
-- on. So each request is granted or short just as its client's account tells.
pub record ReplaysFresh (rules : Rules) (script : List StepData) (report : Replayed) : Type 0 where
  pub turns : List Turn
  pub is_report : IsReportOf rules 0 script turns report
  pub legal : (client : ℕ) (d : Client) → client < length rules.clients
      → IsLegal (client_limit (get_or rules.clients client d)) (entries_for client 0 0 (all_calls rules turns))

-- Over fresh accounts a replay is such a report, of the same turns.
abbrev pub IsOverFresh : {rules : Rules} {before now : PassesView} {script : List StepData} {report : Replayed} → Replays rules before script report now → Type 0
IsOverFresh {rules = rules} {script = script} {report = report} replay = (fresh : ReplaysFresh rules script report) × (fresh.turns ≡ replay.turns)
