-- The text of why a replay, a migration or serving is refused is one line.
use Rattle.std.proofs.Common.{◌≡◌, refl, ℕ, List, [], ◌∷◌, ◌++◌, true, codes}
use Rattle.std.specs.Fmt.{decimal}
use Rattle.gql_base.specs.printing.OneLine.{is_one_line}
use Rattle.client_files.specs.declared.fault.ClientsFault.{ClientsFault}
use Rattle.client_files.specs.declared.fault.ClientsFault.TheVariants as clients
use Rattle.client_files.specs.FaultTexts as client_faults
use Rattle.replay_scripts.specs.declared.fault.ScriptFault.{ScriptFault}
use Rattle.replay_scripts.specs.declared.fault.ScriptFault.TheVariants as script
use Rattle.replay_scripts.specs.FaultTexts as script_faults
use Rattle.trusted_documents.specs.declared.fault.TrustedFault.{TrustedFault}
use Rattle.trusted_documents.specs.declared.fault.TrustedFault.TheVariants as list
use Rattle.trusted_documents.specs.FaultTexts as list_faults
use Rattle.schema_model.specs.declared.fault.SchemaFault.TheVariants.{TooMany}
use Rattle.command_outcomes.specs.declared.checked.SchemaRefusal.{SchemaRefusal}
use Rattle.command_outcomes.specs.declared.checked.SchemaRefusal.TheVariants.{Fails}
use Rattle.command_outcomes.specs.SchemaTexts.{schema_refusal_text}
use Rattle.command_outcomes.proofs.RefusalLines.{back_of, with_number, naming_line}
use Rattle.account_commands.specs.declared.rule_inputs.RulesRefusal.{RulesRefusal}
use Rattle.account_commands.specs.declared.rule_inputs.RulesRefusal.TheVariants.{NoSchema, NoClients}
use Rattle.account_commands.specs.declared.replay_inputs.ReplayRefusal.{ReplayRefusal}
use Rattle.account_commands.specs.declared.replay_inputs.ReplayRefusal.TheVariants.{NoRules, NoScript, NoList}
use Rattle.account_commands.specs.RuleFiles.{rules_refusal_text}
use Rattle.account_commands.specs.Replay.{replay_refusal_text}

module _ (schemas : (name : List ℕ) (refusal : SchemaRefusal) → is_one_line (schema_refusal_text name refusal) ≡ true) where
  -- a number behind a space, as the refusal of a schema tells one
  number_line : (n : ℕ) → is_one_line (32 ∷ decimal n) ≡ true
  number_line n = back_of (codes "schema 1 TooMany") (32 ∷ decimal n) (schemas [] (Fails (TooMany n)))

  numbered : (front : List ℕ) (n : ℕ) → is_one_line front ≡ true → is_one_line (front ++ 32 ∷ decimal n) ≡ true
  numbered front n p = with_number front n (number_line n) p

  pub clients_line : (fault : ClientsFault) → is_one_line (client_faults.fault_text fault) ≡ true
  unfolding is_one_line
  clients_line (clients.BadLine line) = numbered (codes "clients 1 BadLine") line refl
  clients_line (clients.Repeated line) = numbered (codes "clients 2 Repeated") line refl
  clients_line (clients.TooMany line) = numbered (codes "clients 3 TooMany") line refl
  clients_line clients.NoClient = refl
  clients_line clients.Memory = refl

  script_line : (fault : ScriptFault) → is_one_line (script_faults.fault_text fault) ≡ true
  unfolding is_one_line
  script_line (script.BadLine line) = numbered (codes "script 1 BadLine") line refl
  script_line (script.RepeatedId line) = numbered (codes "script 2 RepeatedId") line refl
  script_line (script.UnknownId line) = numbered (codes "script 3 UnknownId") line refl
  script_line script.Memory = refl

  pub list_line : (fault : TrustedFault) → is_one_line (list_faults.trusted_fault_text fault) ≡ true
  unfolding is_one_line
  list_line list.NotJson = refl
  list_line list.NotObject = refl
  list_line (list.TooMany count) = numbered (codes "trusted 3 TooMany") count refl
  list_line (list.BadHash key) = naming_line (codes "trusted 4 BadHash") key refl
  list_line (list.NotString key) = naming_line (codes "trusted 5 NotString") key refl
  list_line (list.TooLong key) = naming_line (codes "trusted 6 TooLong") key refl
  list_line (list.WrongHash key) = naming_line (codes "trusted 7 WrongHash") key refl
  list_line list.Memory = refl

  pub rules_line : (name : List ℕ) (refusal : RulesRefusal) → is_one_line (rules_refusal_text name refusal) ≡ true
  rules_line name (NoSchema refusal) = schemas name refusal
  rules_line name (NoClients fault) = clients_line fault

  pub replay_line : (name : List ℕ) (refusal : ReplayRefusal) → is_one_line (replay_refusal_text name refusal) ≡ true
  replay_line name (NoRules refusal) = rules_line name refusal
  replay_line name (NoScript fault) = script_line fault
  replay_line name (NoList fault) = list_line fault
