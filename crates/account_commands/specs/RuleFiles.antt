-- The files of a schema and of clients, by which requests are decided.
use Rattle.std.specs.Prelude.{◌⊎◌, ℕ, List, Option, Some, option_map}
use Rattle.client_files.specs.declared.client.Client.{Client}
use Rattle.client_files.specs.Lines.{lines_of}
use Rattle.client_files.specs.ClientFiles.{IsClientFile}
use Rattle.client_files.specs.Faults.{IsFirstFault}
use Rattle.client_files.specs.FaultTexts as client_faults
use Rattle.schema_model.specs.declared.schema.Schema.{Schema}
use Rattle.schema_model.specs.SchemaViews.{schema_data}
use Rattle.cost_directives.specs.declared.weights.Weights.{Weights}
use Rattle.cost_directives.specs.WeightViews.{weights_data}
use Rattle.trusted_documents.specs.declared.listing.Trusted.{Trusted}
use Rattle.trusted_documents.specs.Listings.{listing_of}
use Rattle.gateway_replay.specs.PassedOn.{Rules, rules_with}
use Rattle.command_outcomes.specs.declared.limits.TheConstants.{SCHEMA_LIMIT, CLIENTS_LIMIT}
use Rattle.account_commands.specs.declared.rule_texts.RuleTexts.{RuleTexts}
use Rattle.account_commands.specs.declared.rule_inputs.RuleInputs.{RuleInputs}
use Rattle.account_commands.specs.declared.rule_inputs.RulesRefusal.{RulesRefusal}
use Rattle.account_commands.specs.declared.rule_inputs.RulesRefusal.TheVariants.{NoSchema, NoClients}
use Rattle.account_commands.specs.declared.rule_inputs.RulesFault.{RulesFault}
use Rattle.account_commands.specs.declared.rule_inputs.RulesFault.TheVariants.{Refused, Memory}
use Rattle.command_outcomes.specs.declared.outcome.Outcome.{Outcome}
use Rattle.command_outcomes.specs.Outcomes.{FilesTold}
use Rattle.command_outcomes.specs.Reading.{IsTextOf, HasNoText, HoldsText}
use Rattle.command_outcomes.specs.Check.{HoldsWith, IsUnchecked}
use Rattle.command_outcomes.specs.Known.{AreKnownOf}
use Rattle.command_outcomes.specs.SchemaTexts.{schema_refusal_text}

-- ---- the texts of the files

-- The files of these names are these texts.
pub record HoldRuleTexts (schema clients : List ℕ) (content : List ℕ → Option (List ℕ)) (texts : RuleTexts) : Type 0 where
  pub is_schema : IsTextOf SCHEMA_LIMIT (content schema) texts.schema
  pub are_clients : IsTextOf CLIENTS_LIMIT (content clients) texts.clients

-- The schema's file holds no text; or it does, and the clients' file holds none.
abbrev pub HaveNoRules : List ℕ → List ℕ → FilesTold → Outcome → Type 0
HaveNoRules schema clients files outcome = HasNoText SCHEMA_LIMIT schema files outcome
    ⊎ (HoldsText SCHEMA_LIMIT (files.content schema) × HasNoText CLIENTS_LIMIT clients files outcome)

-- ---- what the texts hold

-- The texts hold this, where lists that declare no size have this one. What is known of the schema is known by the same text.
pub record HoldRules (texts : RuleTexts) (undeclared : ℕ) (inputs : RuleInputs) : Type 0 where
  pub is_schema : HoldsWith texts.schema undeclared inputs.weighed.schema inputs.weighed.weights
  pub are_facts : AreKnownOf texts.schema inputs.facts
  pub are_clients : IsClientFile texts.clients inputs.clients.window_seconds inputs.clients.clients.items

-- by what requests are decided, with a list of trusted documents if there is one; how many bytes an answer about the schema may have, and how
-- many steps a request may take
abbrev pub rules_in : RuleInputs → Option Trusted → Option ℕ → Option ℕ → Rules
rules_in inputs list most work = record (rules_with (schema_data inputs.weighed.schema) (weights_data inputs.weighed.weights) inputs.clients.clients.items inputs.clients.window_seconds) {
  trusted = option_map listing_of list;
  facts = Some (record inputs.facts { most = most });
  most_work = work;
}

-- ---- why they are refused

abbrev pub HoldsSchema : RuleTexts → ℕ → Type 0
HoldsSchema texts undeclared = (schema : Schema) × (weights : Weights) × HoldsWith texts.schema undeclared schema weights

abbrev pub HoldsClients : RuleTexts → Type 0
HoldsClients texts = (seconds : ℕ) × (clients : List Client) × IsClientFile texts.clients seconds clients

-- The first reason in this order: of the schema, of the client file.
abbrev pub IsRulesRefusal : RuleTexts → ℕ → RulesRefusal → Type 0
IsRulesRefusal texts undeclared (NoSchema refusal) = IsUnchecked texts.schema refusal
IsRulesRefusal texts undeclared (NoClients fault) = HoldsSchema texts undeclared × IsFirstFault (lines_of texts.clients) fault

-- the text of a refusal, where the schema's file has this name
abbrev pub rules_refusal_text : List ℕ → RulesRefusal → List ℕ
rules_refusal_text name (NoSchema refusal) = schema_refusal_text name refusal
rules_refusal_text name (NoClients fault) = client_faults.fault_text fault

-- where it is a refusal, this holds of it
abbrev pub IfRulesRefused : RulesFault → (RulesRefusal → Type 0) → Type 0
IfRulesRefused (Refused refusal) P = P refusal
IfRulesRefused Memory P = Unit {0}

-- ---- what serves proofs

-- The schema's text holds none, for this reason.
abbrev pub IsNoSchema : List ℕ → RulesRefusal → Type 0
IsNoSchema text (NoSchema refusal) = IsUnchecked text refusal
IsNoSchema text other = ⊥

-- The text is no client file, for this reason.
abbrev pub AreNoClients : List ℕ → RulesRefusal → Type 0
AreNoClients text (NoClients fault) = IsFirstFault (lines_of text) fault
AreNoClients text other = ⊥
