-- The files by which a gateway is served.
use Rattle.std.specs.Prelude.{◌⊎◌, ℕ, List, Option}
use Rattle.trusted_documents.specs.FaultTexts as list_faults
use Rattle.command_words.specs.declared.command.AskedServe.{AskedServe}
use Rattle.account_commands.specs.PassedOn.{SCHEMA_LIMIT, CLIENTS_LIMIT, Outcome, FilesTold, IsRefusedAs, HoldsText}
use Rattle.account_commands.specs.declared.rule_texts.RuleTexts.{RuleTexts}
use Rattle.account_commands.specs.declared.list_inputs.ListText.{ListText}
use Rattle.account_commands.specs.RuleFiles.{HaveNoRules, HoldRuleTexts, HoldRules, HoldsSchema, HoldsClients, IsRulesRefusal, rules_refusal_text}
use Rattle.account_commands.specs.Lists.{IsListText, HasNoListText, HoldsList, HasListFault}
use Rattle.gateway_run.specs.declared.serve_inputs.ServeTexts.{ServeTexts}
use Rattle.gateway_run.specs.declared.serve_inputs.ServeInputs.{ServeInputs}
use Rattle.gateway_run.specs.declared.serve_inputs.ServeRefusal.{ServeRefusal}
use Rattle.gateway_run.specs.declared.serve_inputs.ServeRefusal.TheVariants.{NoRules, NoList}
use Rattle.gateway_run.specs.declared.serve_inputs.InputsFault.{InputsFault}
use Rattle.gateway_run.specs.declared.serve_inputs.InputsFault.TheVariants.{Refused, Memory}

-- ---- the texts of the files

-- The files are these texts.
pub record HoldServeTexts (asked : AskedServe) (content : List ℕ → Option (List ℕ)) (texts : ServeTexts) : Type 0 where
  pub are_rules : HoldRuleTexts asked.schema asked.clients content texts.rules
  pub is_list : IsListText asked.list content texts.list

-- The files of the schema and of the clients are texts.
abbrev pub HoldBothTexts : AskedServe → (List ℕ → Option (List ℕ)) → Type 0
HoldBothTexts asked content = HoldsText SCHEMA_LIMIT (content asked.schema) × HoldsText CLIENTS_LIMIT (content asked.clients)

-- The first of the files that was not read, or holds no text: the schema, the clients, the list.
abbrev pub HaveNoServeTexts : AskedServe → FilesTold → Outcome → Type 0
HaveNoServeTexts asked files outcome = HaveNoRules asked.schema asked.clients files outcome
    ⊎ (HoldBothTexts asked files.content × HasNoListText asked.list files outcome)

-- ---- what the texts hold

-- The texts hold these inputs, where lists that declare no size have this one.
pub record HoldServe (texts : ServeTexts) (undeclared : ℕ) (inputs : ServeInputs) : Type 0 where
  pub are_rules : HoldRules texts.rules undeclared inputs.rules
  pub is_list : HoldsList texts.list inputs.list

-- ---- why they are refused

-- The first reason in this order: of the schema, of the client file, of the list.
abbrev pub IsServeRefusal : ServeTexts → ℕ → ServeRefusal → Type 0
IsServeRefusal texts undeclared (NoRules refusal) = IsRulesRefusal texts.rules undeclared refusal
IsServeRefusal texts undeclared (NoList fault) = HoldsSchema texts.rules undeclared × HoldsClients texts.rules × HasListFault texts.list fault

-- the text of a refusal, where the schema's file has this name
abbrev pub serve_refusal_text : List ℕ → ServeRefusal → List ℕ
serve_refusal_text name (NoRules refusal) = rules_refusal_text name refusal
serve_refusal_text name (NoList fault) = list_faults.trusted_fault_text fault

-- where it is a refusal, this holds of it
abbrev pub IfServeRefused : InputsFault → (ServeRefusal → Type 0) → Type 0
IfServeRefused (Refused refusal) P = P refusal
IfServeRefused Memory P = Unit {0}

-- The texts are refused, and the text says why.
abbrev pub IsServeRefused : List ℕ → ServeTexts → ℕ → Outcome → Type 0
IsServeRefused name texts undeclared outcome = (refusal : ServeRefusal) × IsServeRefusal texts undeclared refusal × IsRefusedAs (serve_refusal_text name refusal) outcome

-- ---- what serves proofs

-- The texts hold no rules, for this reason.
abbrev pub HaveNoRulesIn : RuleTexts → ℕ → ServeRefusal → Type 0
HaveNoRulesIn texts undeclared (NoRules refusal) = IsRulesRefusal texts undeclared refusal
HaveNoRulesIn texts undeclared other = ⊥

-- The text is no list, for this reason.
abbrev pub IsNoList : Option ListText → ServeRefusal → Type 0
IsNoList text (NoList fault) = HasListFault text fault
IsNoList text other = ⊥
