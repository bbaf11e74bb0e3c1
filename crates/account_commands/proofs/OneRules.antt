-- The texts of a schema and of clients are read in one way.
use Rattle.std.proofs.Common.{◌≡◌, ap, ℕ, List}
use Rattle.schema_model.specs.declared.schema.Schema.{Schema}
use Rattle.client_files.specs.declared.client.Client.{Client}
use Rattle.client_files.specs.declared.fault.ClientsFault.{ClientsFault}
use Rattle.client_files.specs.Lines.{lines_of}
use Rattle.client_files.specs.ClientFiles.{IsClientFile}
use Rattle.client_files.specs.Faults.{IsFirstFault}
use Rattle.command_outcomes.specs.declared.checked.SchemaRefusal.{SchemaRefusal}
use Rattle.account_commands.specs.declared.rule_texts.RuleTexts.{RuleTexts}
use Rattle.account_commands.specs.declared.rule_inputs.RuleInputs.{RuleInputs}
use Rattle.account_commands.specs.declared.rule_inputs.RulesRefusal.{RulesRefusal}
use Rattle.account_commands.specs.declared.rule_inputs.RulesRefusal.TheVariants.{NoSchema, NoClients}
use Rattle.command_outcomes.specs.Check.{HoldsWeighed, IsUnchecked}
use Rattle.account_commands.specs.RuleFiles.{HoldRules, HoldsSchema, HoldsClients, IsRulesRefusal}
use Rattle.command_outcomes.proofs.WeighedSchemas.{weighed}
use Rattle.account_commands.proofs.ReplayRefusals.{holds_schema, holds_clients}

pub record OneRules : Type 0 where
  pub checked_or_not : (bytes : List ℕ) (schema : Schema) (refusal : SchemaRefusal) → HoldsWeighed bytes schema → IsUnchecked bytes refusal → ⊥
  pub one_check : (bytes : List ℕ) (refusal other : SchemaRefusal) → IsUnchecked bytes refusal → IsUnchecked bytes other → refusal ≡ other
  pub served_or_not : (text : List ℕ) (seconds : ℕ) (clients : List Client) (fault : ClientsFault) → IsClientFile text seconds clients → IsFirstFault (lines_of text) fault → ⊥
  pub one_clients : (text : List ℕ) (fault other : ClientsFault) → IsFirstFault (lines_of text) fault → IsFirstFault (lines_of text) other → fault ≡ other

module _ (only : OneRules) (texts : RuleTexts) (undeclared : ℕ) where
  no_schema : (refusal : SchemaRefusal) → HoldsSchema texts undeclared → IsUnchecked texts.schema refusal → ⊥
  no_schema refusal held refused = only.checked_or_not texts.schema held.0 refusal (weighed texts.schema undeclared held.0 held.1 held.2) refused

  no_clients : (fault : ClientsFault) → HoldsClients texts → IsFirstFault (lines_of texts.clients) fault → ⊥
  no_clients fault held refused = only.served_or_not texts.clients held.0 held.1 fault held.2 refused

  pub no_rules : (refusal : RulesRefusal) → HoldsSchema texts undeclared → HoldsClients texts → IsRulesRefusal texts undeclared refusal → ⊥
  no_rules (NoSchema refusal) schema clients refused = no_schema refusal schema refused
  no_rules (NoClients fault) schema clients refused = no_clients fault clients refused.1

  pub held_or_refused : (refusal : RulesRefusal) (inputs : RuleInputs) → IsRulesRefusal texts undeclared refusal → HoldRules texts undeclared inputs → ⊥
  held_or_refused refusal inputs refused held = no_rules refusal (holds_schema texts undeclared inputs held) (holds_clients texts undeclared inputs held) refused

  pub one_rules : (refusal other : RulesRefusal) → IsRulesRefusal texts undeclared refusal → IsRulesRefusal texts undeclared other → refusal ≡ other
  one_rules (NoSchema refusal) (NoSchema other) a b = ap NoSchema (only.one_check texts.schema refusal other a b)
  one_rules (NoSchema refusal) (NoClients fault) a b = absurd (no_schema refusal b.0 a)
  one_rules (NoClients fault) (NoSchema refusal) a b = absurd (no_schema refusal a.0 b)
  one_rules (NoClients fault) (NoClients other) a b = ap NoClients (only.one_clients texts.clients fault other a.1 b.1)
