-- What an exercise may be refused for.
use Rattle.std.proofs.Common.{◌≤◌, refl, ℕ, List, [], ◌∷◌}
use Rattle.client_files.specs.declared.client.Client.{Client}
use Rattle.client_files.specs.declared.fault.ClientsFault.{ClientsFault}
use Rattle.client_files.specs.Lines.{lines_of}
use Rattle.client_files.specs.ClientFiles.{IsClientFile}
use Rattle.client_files.specs.Faults.{IsFirstFault}
use Rattle.cost_vectors.specs.Texts.{clients_text}
use Rattle.cost_vectors.specs.Script.{script_text}
use Rattle.replay_scripts.specs.declared.fault.ScriptFault.{ScriptFault}
use Rattle.replay_scripts.specs.Steps.{StepData}
use Rattle.replay_scripts.specs.Scripts.{IsScript}
use Rattle.replay_scripts.specs.Faults.{HasFault}
use Rattle.command_words.specs.declared.command.TheConstants.{UNDECLARED}
use Rattle.account_commands.specs.declared.rule_inputs.RulesRefusal.TheVariants.{NoSchema, NoClients}
use Rattle.account_commands.specs.declared.replay_inputs.ReplayRefusal.{ReplayRefusal}
use Rattle.account_commands.specs.declared.replay_inputs.ReplayRefusal.TheVariants.{NoRules, NoScript, NoList}
use Rattle.account_commands.specs.Replay.{IsReplayRefusal}
use Rattle.account_commands.specs.Exercise.{exercise_texts, IsOfItsSchema}
use Rattle.account_commands.proofs.ExerciseScripts.{exercise_script}
use Rattle.account_commands.proofs.ExerciseClients.{the_client, exercise_clients}

module _ (served_or_not : (text : List ℕ) (seconds : ℕ) (clients : List Client) (fault : ClientsFault) → IsClientFile text seconds clients → IsFirstFault (lines_of text) fault → ⊥)
    (script_or_not : (text : List ℕ) (steps : List StepData) (fault : ScriptFault) → IsScript text steps → HasFault text fault → ⊥) where
  pub schema_alone : (requests : ℕ) (refusal : ReplayRefusal) → requests ≤ 5000 → IsReplayRefusal (exercise_texts requests) UNDECLARED refusal → IsOfItsSchema refusal
  schema_alone requests (NoRules (NoSchema why)) small refused = (why, refl, refused)
  schema_alone requests (NoRules (NoClients fault)) small refused = absurd (served_or_not clients_text 60 (the_client ∷ []) fault exercise_clients refused.1)
  schema_alone requests (NoScript fault) small refused =
      let script = exercise_script requests small in
      absurd (script_or_not (script_text requests) script.0 fault script.1 refused.2)
  schema_alone requests (NoList fault) small refused = absurd refused.3
