-- What is refused of a replay's texts.
use Rattle.std.proofs.Common.{◌≡◌, ℕ, List, subst}
use Rattle.replay_scripts.specs.Scripts.{IsScript}
use Rattle.replay_scripts.specs.Steps.{StepData}
use Rattle.replay_scripts.specs.Faults.{HasFault}
use Rattle.account_commands.specs.declared.rule_texts.RuleTexts.{RuleTexts}
use Rattle.account_commands.specs.declared.replay_texts.ReplayTexts.{ReplayTexts}
use Rattle.account_commands.specs.declared.rule_inputs.RuleInputs.{RuleInputs}
use Rattle.account_commands.specs.declared.replay_inputs.ReplayRefusal.TheVariants.{NoRules, NoScript, NoList}
use Rattle.account_commands.specs.declared.replay_inputs.ReplayFault.{ReplayFault}
use Rattle.account_commands.specs.declared.replay_inputs.ReplayFault.TheVariants.{Refused, Memory}
use Rattle.account_commands.specs.RuleFiles.{HoldRules, HoldsSchema, HoldsClients}
use Rattle.account_commands.specs.Replay.{IsReplayRefusal, IfReplayRefused, HaveNoRulesIn, HoldsScript, IsNoScript, IsNoList}

pub holds_schema : (texts : RuleTexts) (undeclared : ℕ) (inputs : RuleInputs) → HoldRules texts undeclared inputs → HoldsSchema texts undeclared
holds_schema texts undeclared inputs held = (inputs.weighed.schema, inputs.weighed.weights, held.is_schema)

pub holds_clients : (texts : RuleTexts) (undeclared : ℕ) (inputs : RuleInputs) → HoldRules texts undeclared inputs → HoldsClients texts
holds_clients texts undeclared inputs held = (inputs.clients.window_seconds, inputs.clients.clients.items, held.are_clients)

pub no_rules : (texts : ReplayTexts) (undeclared : ℕ) (fault : ReplayFault) → IfReplayRefused fault (HaveNoRulesIn texts.rules undeclared) → IfReplayRefused fault (IsReplayRefusal texts undeclared)
no_rules texts undeclared (Refused (NoRules refusal)) none = none
no_rules texts undeclared (Refused (NoScript fault)) none = absurd none
no_rules texts undeclared (Refused (NoList fault)) none = absurd none
no_rules texts undeclared Memory none = tt

pub no_script : (texts : ReplayTexts) (undeclared : ℕ) (text : List ℕ) (fault : ReplayFault) → HoldsSchema texts.rules undeclared → HoldsClients texts.rules → text ≡ texts.script → IfReplayRefused fault (IsNoScript text) → IfReplayRefused fault (IsReplayRefusal texts undeclared)
no_script texts undeclared text (Refused (NoRules refusal)) schema clients same none = absurd none
no_script texts undeclared text (Refused (NoScript fault)) schema clients same none = (schema, clients, subst (λ t. HasFault t fault) same none)
no_script texts undeclared text (Refused (NoList fault)) schema clients same none = absurd none
no_script texts undeclared text Memory schema clients same none = tt

pub no_list : (texts : ReplayTexts) (undeclared : ℕ) (fault : ReplayFault) → HoldsSchema texts.rules undeclared → HoldsClients texts.rules → HoldsScript texts → IfReplayRefused fault (IsNoList texts.list) → IfReplayRefused fault (IsReplayRefusal texts undeclared)
no_list texts undeclared (Refused (NoRules refusal)) schema clients script none = absurd none
no_list texts undeclared (Refused (NoScript fault)) schema clients script none = absurd none
no_list texts undeclared (Refused (NoList fault)) schema clients script none = (schema, clients, script, none)
no_list texts undeclared Memory schema clients script none = tt

pub holds_script : (texts : ReplayTexts) (text : List ℕ) (steps : List StepData) → text ≡ texts.script → IsScript text steps → HoldsScript texts
holds_script texts text steps same is = (steps, subst (λ t. IsScript t steps) same is)
