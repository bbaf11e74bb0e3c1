-- What an exercise command comes to.
use Rattle.std.specs.Prelude.{◌≡◌, ◌⊎◌, ℕ, List, None, ◌++◌, codes}
use Rattle.std.specs.Fmt.{decimal}
use Rattle.cost_num.specs.CostText.{cost_text}
use Rattle.cost_vectors.specs.Texts.{schema_text, clients_text}
use Rattle.cost_vectors.specs.Script.{script_text}
use Rattle.command_words.specs.declared.command.TheConstants.{UNDECLARED}
use Rattle.gateway_replay.specs.declared.replayed.Replayed.{Replayed}
use Rattle.account_commands.specs.declared.replay_texts.ReplayTexts.{ReplayTexts}
use Rattle.account_commands.specs.declared.rule_inputs.RulesRefusal.TheVariants.{NoSchema}
use Rattle.account_commands.specs.declared.replay_inputs.ReplayRefusal.{ReplayRefusal}
use Rattle.account_commands.specs.declared.replay_inputs.ReplayRefusal.TheVariants.{NoRules}
use Rattle.command_outcomes.specs.declared.checked.SchemaRefusal.{SchemaRefusal}
use Rattle.command_outcomes.specs.Check.{IsUnchecked}
use Rattle.command_outcomes.specs.declared.outcome.Outcome.{Outcome}
use Rattle.command_outcomes.specs.declared.outcome.Outcome.TheVariants.{Memory}
use Rattle.command_outcomes.specs.Outcomes.{IsDone}
use Rattle.account_commands.specs.Replay.{IsReplayed, IsReplayRefused}

-- the texts of an exercise with so many requests
abbrev pub exercise_texts : ℕ → ReplayTexts
exercise_texts requests = record {
  rules = record { schema = schema_text; clients = clients_text };
  script = script_text requests;
  list = None;
}

-- how many steps there were, and how many requests were granted, short and refused
abbrev pub numbers_text : Replayed → List ℕ
numbers_text report = codes "steps " ++ (decimal report.steps ++ (codes " granted " ++ (decimal report.granted ++ (codes " short "
    ++ (decimal report.short ++ (codes " refused " ++ (decimal report.refused ++ codes " charged ")))))))

-- what a report adds up to
abbrev pub summary_text : Replayed → List ℕ
summary_text report = numbers_text report ++ cost_text report.charged

-- It is refused for its schema, which is the same for each number of requests: that is why its text holds none.
abbrev pub IsOfItsSchema : ReplayRefusal → Type 0
IsOfItsSchema refusal = (why : SchemaRefusal) × (refusal ≡ NoRules (NoSchema why)) × IsUnchecked schema_text why

-- The replay of the texts of so many requests is summed up, or those texts are refused as a replay's are, or there was no memory.
abbrev pub ExerciseCameTo : ℕ → Outcome → Type 0
ExerciseCameTo requests outcome = (outcome ≡ Memory)
    ⊎ IsReplayed (exercise_texts requests) UNDECLARED None (λ end. IsDone (summary_text end.report) outcome)
    ⊎ IsReplayRefused (codes "schema") (exercise_texts requests) UNDECLARED outcome
