-- What is refused of the texts of rules.
use Rattle.std.proofs.Common.{◌≡◌, ℕ, List, subst}
use Rattle.schema_model.specs.declared.schema.Schema.{Schema}
use Rattle.cost_directives.specs.declared.weights.Weights.{Weights}
use Rattle.client_files.specs.Lines.{lines_of}
use Rattle.client_files.specs.ClientFiles.{IsClientFile}
use Rattle.client_files.specs.Faults.{IsFirstFault}
use Rattle.account_commands.specs.declared.rule_texts.RuleTexts.{RuleTexts}
use Rattle.account_commands.specs.declared.rule_inputs.RuleInputs.{RuleInputs}
use Rattle.account_commands.specs.declared.rule_inputs.RulesRefusal.TheVariants.{NoSchema, NoClients}
use Rattle.account_commands.specs.declared.rule_inputs.RulesFault.{RulesFault}
use Rattle.account_commands.specs.declared.rule_inputs.RulesFault.TheVariants.{Refused, Memory}
use Rattle.command_outcomes.specs.Check.{HoldsWith, IsUnchecked}
use Rattle.command_outcomes.specs.Known.{AreKnownOf}
use Rattle.account_commands.specs.RuleFiles.{HoldRules, HoldsSchema, IsRulesRefusal, IfRulesRefused, IsNoSchema, AreNoClients}

pub holds_schema : (texts : RuleTexts) (undeclared : ℕ) (text : List ℕ) (schema : Schema) (weights : Weights) → text ≡ texts.schema → HoldsWith text undeclared schema weights → HoldsSchema texts undeclared
holds_schema texts undeclared text schema weights same held = subst (λ t. (s : Schema) × (w : Weights) × HoldsWith t undeclared s w) same (schema, weights, held)

pub no_schema : (texts : RuleTexts) (undeclared : ℕ) (text : List ℕ) (fault : RulesFault) → text ≡ texts.schema → IfRulesRefused fault (IsNoSchema text) → IfRulesRefused fault (IsRulesRefusal texts undeclared)
no_schema texts undeclared text (Refused (NoSchema refusal)) same none = subst (λ t. IsUnchecked t refusal) same none
no_schema texts undeclared text (Refused (NoClients fault)) same none = absurd none
no_schema texts undeclared text Memory same none = tt

pub no_clients : (texts : RuleTexts) (undeclared : ℕ) (text : List ℕ) (fault : RulesFault) → HoldsSchema texts undeclared → text ≡ texts.clients → IfRulesRefused fault (AreNoClients text) → IfRulesRefused fault (IsRulesRefusal texts undeclared)
no_clients texts undeclared text (Refused (NoSchema refusal)) schema same none = absurd none
no_clients texts undeclared text (Refused (NoClients fault)) schema same none = (schema, subst (λ t. IsFirstFault (lines_of t) fault) same none)
no_clients texts undeclared text Memory schema same none = tt

pub holds_rules : (texts : RuleTexts) (undeclared : ℕ) (schema clients again : List ℕ) (inputs : RuleInputs) → schema ≡ texts.schema → clients ≡ texts.clients → again ≡ texts.schema
    → HoldsWith schema undeclared inputs.weighed.schema inputs.weighed.weights → IsClientFile clients inputs.clients.window_seconds inputs.clients.clients.items → AreKnownOf again inputs.facts → HoldRules texts undeclared inputs
holds_rules texts undeclared schema clients again inputs s c a weighed read known = record {
  is_schema = subst (λ t. HoldsWith t undeclared inputs.weighed.schema inputs.weighed.weights) s weighed;
  are_facts = subst (λ t. AreKnownOf t inputs.facts) a known;
  are_clients = subst (λ t. IsClientFile t inputs.clients.window_seconds inputs.clients.clients.items) c read;
}
