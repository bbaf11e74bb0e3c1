-- What a replay command comes to.
use Rattle.std.specs.Prelude.{◌≡◌, ◌⊎◌, ℕ, ◌+◌, ◌<◌, ◌≤◌, length, List, [], ◌∷◌, ◌++◌, Option, None, Bool, true, false, codes, string_bytes}
use Rattle.std.specs.Fmt.{decimal}
use Rattle.cost_num.specs.declared.Cost.{Cost}
use Rattle.cost_num.specs.CostText.{cost_text}
use Rattle.cost_num.specs.Within.{Within}
use Rattle.account_core.specs.declared.Account.{Account}
use Rattle.account_core.specs.Machine.{account_of}
use Rattle.account_core.specs.History.{state_after}
use Rattle.account_shared.specs.Gains.{entries_for}
use Rattle.client_files.specs.declared.client.Client.{Client}
use Rattle.client_files.specs.declared.client.TheConstants.{CLIENT_LIMIT}
use Rattle.replay_scripts.specs.Steps.{StepData}
use Rattle.replay_scripts.specs.Answers.{steps_of}
use Rattle.replay_scripts.specs.Scripts.{IsScript}
use Rattle.replay_scripts.specs.Faults.{HasFault}
use Rattle.replay_scripts.specs.FaultTexts as script_faults
use Rattle.trusted_documents.specs.FaultTexts as list_faults
use Rattle.gateway_replay.specs.PassedOn.{Rules, client_limit, greatest}
use Rattle.gateway_replay.specs.Turns.{Turn}
use Rattle.gateway_replay.specs.Replays.{all_calls, ReplaysFresh}
use Rattle.command_words.specs.declared.command.AskedReplay.{AskedReplay}
use Rattle.command_outcomes.specs.declared.limits.TheConstants.{SCHEMA_LIMIT, CLIENTS_LIMIT, SCRIPT_LIMIT}
use Rattle.account_commands.specs.declared.rule_texts.RuleTexts.{RuleTexts}
use Rattle.account_commands.specs.declared.replay_texts.ReplayTexts.{ReplayTexts}
use Rattle.account_commands.specs.declared.replay_inputs.ReplayInputs.{ReplayInputs}
use Rattle.account_commands.specs.declared.replay_inputs.ReplayRefusal.{ReplayRefusal}
use Rattle.account_commands.specs.declared.replay_inputs.ReplayRefusal.TheVariants.{NoRules, NoScript, NoList}
use Rattle.account_commands.specs.declared.replay_inputs.ReplayFault.{ReplayFault}
use Rattle.account_commands.specs.declared.replay_inputs.ReplayFault.TheVariants.{Refused, Memory as NoMemory}
use Rattle.account_commands.specs.declared.replay_end.ReplayEnd.{ReplayEnd}
use Rattle.command_outcomes.specs.declared.outcome.Outcome.{Outcome}
use Rattle.command_outcomes.specs.declared.outcome.Outcome.TheVariants.{Memory}
use Rattle.command_outcomes.specs.Texts.{line}
use Rattle.command_outcomes.specs.Outcomes.{FilesTold, NoFileFailed, IsDone, IsRefusedAs}
use Rattle.command_outcomes.specs.Reading.{IsTextOf, HasNoText, HoldsText}
use Rattle.account_commands.specs.RuleFiles.{HoldRuleTexts, HaveNoRules, HoldRules, rules_in, HoldsSchema, HoldsClients, IsRulesRefusal, rules_refusal_text}
use Rattle.account_commands.specs.declared.list_inputs.ListText.{ListText}
use Rattle.account_commands.specs.Lists.{IsListText, HasNoListText, HoldsList, HasListFault}

-- ---- the texts of the files

-- The files are these texts.
pub record HoldReplayTexts (asked : AskedReplay) (content : List ℕ → Option (List ℕ)) (texts : ReplayTexts) : Type 0 where
  pub are_rules : HoldRuleTexts asked.schema asked.clients content texts.rules
  pub is_script : IsTextOf SCRIPT_LIMIT (content asked.script) texts.script
  pub is_list : IsListText asked.list content texts.list

-- The files of the schema and of the clients are texts.
abbrev pub HoldBothTexts : AskedReplay → (List ℕ → Option (List ℕ)) → Type 0
HoldBothTexts asked content = HoldsText SCHEMA_LIMIT (content asked.schema) × HoldsText CLIENTS_LIMIT (content asked.clients)

-- The first of these files that was not read, or holds no text: the schema, the clients, the script.
abbrev pub HaveNoScript : AskedReplay → FilesTold → Outcome → Type 0
HaveNoScript asked files outcome = HaveNoRules asked.schema asked.clients files outcome
    ⊎ (HoldBothTexts asked files.content × HasNoText SCRIPT_LIMIT asked.script files outcome)

-- One of these was not read, or holds no text; or all of them are texts, and the file of the list was not read, or holds none.
abbrev pub HaveNoReplay : AskedReplay → FilesTold → Outcome → Type 0
HaveNoReplay asked files outcome = HaveNoScript asked files outcome
    ⊎ ((HoldBothTexts asked files.content × HoldsText SCRIPT_LIMIT (files.content asked.script)) × HasNoListText asked.list files outcome)

-- ---- what the texts hold

-- The texts hold these inputs, where lists that declare no size have this one.
pub record HoldReplay (texts : ReplayTexts) (undeclared : ℕ) (inputs : ReplayInputs) : Type 0 where
  pub are_rules : HoldRules texts.rules undeclared inputs.rules
  pub is_script : IsScript texts.script (steps_of inputs.script)
  pub is_list : HoldsList texts.list inputs.list

-- ---- why they are refused

-- The text of the script is one.
abbrev pub HoldsScript : ReplayTexts → Type 0
HoldsScript texts = (steps : List StepData) × IsScript texts.script steps

-- The first reason in this order: of the schema, of the client file, of the script, of the list.
abbrev pub IsReplayRefusal : ReplayTexts → ℕ → ReplayRefusal → Type 0
IsReplayRefusal texts undeclared (NoRules refusal) = IsRulesRefusal texts.rules undeclared refusal
IsReplayRefusal texts undeclared (NoScript fault) = HoldsSchema texts.rules undeclared × HoldsClients texts.rules × HasFault texts.script fault
IsReplayRefusal texts undeclared (NoList fault) = HoldsSchema texts.rules undeclared × HoldsClients texts.rules × HoldsScript texts × HasListFault texts.list fault

-- the text of a refusal, where the schema's file has this name
abbrev pub replay_refusal_text : List ℕ → ReplayRefusal → List ℕ
replay_refusal_text name (NoRules refusal) = rules_refusal_text name refusal
replay_refusal_text name (NoScript fault) = script_faults.fault_text fault
replay_refusal_text name (NoList fault) = list_faults.trusted_fault_text fault

-- where it is a refusal, this holds of it
abbrev pub IfReplayRefused : ReplayFault → (ReplayRefusal → Type 0) → Type 0
IfReplayRefused (Refused refusal) P = P refusal
IfReplayRefused NoMemory P = Unit {0}

-- The texts are refused, and the text says why.
abbrev pub IsReplayRefused : List ℕ → ReplayTexts → ℕ → Outcome → Type 0
IsReplayRefused name texts undeclared outcome = (refusal : ReplayRefusal) × IsReplayRefusal texts undeclared refusal × IsRefusedAs (replay_refusal_text name refusal) outcome

-- ---- what a replay comes to

-- the account of the client at this place, after all calls of these turns
abbrev pub account_after : Rules → List Turn → ℕ → Client → Account
account_after rules turns place client = account_of (state_after (client_limit client) (entries_for place 0 0 (all_calls rules turns)))

-- the accounts of these clients, of which the first has this place
abbrev pub accounts_from : Rules → List Turn → ℕ → List Client → List Account
accounts_from rules turns place [] = []
accounts_from rules turns place (client ∷ clients) = account_after rules turns place client ∷ accounts_from rules turns (place + 1) clients

-- By these rules the script was replayed over fresh accounts with this report, and these are the clients' accounts after it.
pub record EndsAs (rules : Rules) (script : List StepData) (end : ReplayEnd) : Type 0 where
  pub replays : ReplaysFresh rules script end.report
  pub clients : end.totals.clients.items.items ≡ rules.clients
  pub accounts : end.totals.accounts ≡ accounts_from rules replays.turns 0 rules.clients

-- The texts hold a replay, and this holds of its end. Each request takes at most so many steps, where a number is given.
abbrev pub IsReplayed : ReplayTexts → ℕ → Option ℕ → (ReplayEnd → Type 0) → Type 0
IsReplayed texts undeclared work P = (inputs : ReplayInputs) × HoldReplay texts undeclared inputs
    × ((end : ReplayEnd) × EndsAs (rules_in inputs.rules inputs.list None work) (steps_of inputs.script) end × P end)

-- ---- how it is written

-- what is carried, for a client that carries
abbrev pub carried_text : Bool → Cost → List ℕ
carried_text true carried = codes " carried " ++ cost_text carried
carried_text false carried = []

-- a client by its key, with the window and the settled cost of its account
abbrev pub client_text : Client → Account → List ℕ
client_text client account = client.key ++ (codes " window " ++ (decimal account.window ++ (codes " settled " ++ (cost_text account.settled ++ carried_text client.carry account.carried))))

-- a line for each client, in their order
abbrev pub client_lines : List Client → List Account → List ℕ
client_lines (client ∷ clients) (account ∷ accounts) = line (client_text client account) ++ client_lines clients accounts
client_lines _ _ = []

-- the lines of the steps and of what was left open, and then those of the clients
abbrev pub end_text : ReplayEnd → List ℕ
end_text end = string_bytes end.report.lines ++ client_lines end.totals.clients.items.items end.totals.accounts

-- The output with its line end is the text of this end, or there was no memory.
abbrev pub IsWritten : ReplayEnd → Outcome → Type 0
IsWritten end outcome = (output : List ℕ) × (end_text end ≡ line output) × IsDone output outcome

-- By the texts: a replay's lines are the output, or the texts are refused, or there was no memory.
abbrev pub ReplayOf : List ℕ → ReplayTexts → ℕ → Option ℕ → Outcome → Type 0
ReplayOf name texts undeclared work outcome = (outcome ≡ Memory)
    ⊎ IsReplayed texts undeclared work (λ end. IsWritten end outcome)
    ⊎ IsReplayRefused name texts undeclared outcome

-- The files hold no texts; or they do, and came to that, and none failed.
abbrev pub ReplayCameTo : AskedReplay → FilesTold → Outcome → Type 0
ReplayCameTo asked files outcome = HaveNoReplay asked files outcome
    ⊎ ((texts : ReplayTexts) × HoldReplayTexts asked files.content texts × ReplayOf asked.schema texts asked.undeclared asked.most_work outcome
    × NoFileFailed files)

-- ---- what serves proofs

-- The texts hold no rules, for this reason.
abbrev pub HaveNoRulesIn : RuleTexts → ℕ → ReplayRefusal → Type 0
HaveNoRulesIn texts undeclared (NoRules refusal) = IsRulesRefusal texts undeclared refusal
HaveNoRulesIn texts undeclared other = ⊥

-- The text is no script, for this reason.
abbrev pub IsNoScript : List ℕ → ReplayRefusal → Type 0
IsNoScript text (NoScript fault) = HasFault text fault
IsNoScript text other = ⊥

-- The text is no list, for this reason.
abbrev pub IsNoList : Option ListText → ReplayRefusal → Type 0
IsNoList text (NoList fault) = HasListFault text fault
IsNoList text other = ⊥

-- An end that can be written: it has 1 to 1,000 clients, and what was charged is within the cap.
pub record IsPrintable (end : ReplayEnd) : Type 0 where
  pub some : 0 < length end.totals.clients.items.items
  pub few : length end.totals.clients.items.items ≤ CLIENT_LIMIT
  pub charged : Within greatest end.report.charged
