-- The text of why an operation is refused is one line.
use Rattle.std.proofs.Common.{◌≡◌, refl, ℕ, List, true}
use Rattle.gql_base.specs.printing.OneLine.{is_one_line}
use Rattle.acceptance.specs.declared.fault.Refusal.{Refusal}
use Rattle.acceptance.specs.Texts.{refusal_text}
use Rattle.command_words.specs.declared.command.Asked.{Asked}
use Rattle.command_outcomes.specs.declared.checked.SchemaRefusal.{SchemaRefusal}
use Rattle.command_outcomes.specs.SchemaTexts.{schema_refusal_text}
use Rattle.operation_commands.specs.declared.asking.AskedRefusal.{AskedRefusal}
use Rattle.operation_commands.specs.declared.asking.AskedRefusal.TheVariants.{NoSchema, NotJson, BadVariables, NoOperation}
use Rattle.operation_commands.specs.Asked.{asked_text}

module _ (refusals : (refusal : Refusal) → is_one_line (refusal_text refusal) ≡ true)
    (schemas : (name : List ℕ) (refusal : SchemaRefusal) → is_one_line (schema_refusal_text name refusal) ≡ true) where
  pub asked_line : (asked : Asked) (refusal : AskedRefusal) → is_one_line (asked_text asked refusal) ≡ true
  unfolding is_one_line
  asked_line asked (NoSchema refusal) = schemas asked.schema refusal
  asked_line asked NotJson = refl
  asked_line asked BadVariables = refl
  asked_line asked (NoOperation refusal) = refusals refusal
