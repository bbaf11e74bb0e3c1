-- What a check command comes to.
use Rattle.std.specs.Prelude.{◌≡◌, ◌≢◌, ◌⊎◌, ◌≤◌, ◌<◌, ℕ, List, IsUtf8, Ok, Err, length}
use Rattle.schema_reader.specs.Schemas.{DefinitionTree}
use Rattle.schema_reader.specs.declared.schema_text.SchemaTextFault.{SchemaTextFault}
use Rattle.schema_reader.specs.declared.schema_text.SchemaTextFault.TheVariants.{Memory as TextMemory}
use Rattle.schema_reader.specs.SchemaAnswers.{HasSchema, HasSchemaFault}
use Rattle.schema_model.specs.declared.fault.SchemaFault.{SchemaFault}
use Rattle.schema_model.specs.declared.fault.SchemaFault.TheVariants.{Memory as NoMemory}
use Rattle.schema_model.specs.declared.schema.Schema.{Schema}
use Rattle.schema_model.specs.SchemaViews.{schema_data}
use Rattle.schema_model.specs.Faults.{SchemaBuilds}
use Rattle.cost_directives.specs.declared.fault.DirectiveFault.{DirectiveFault}
use Rattle.cost_directives.specs.declared.fault.DirectiveFault.TheVariants.{Memory as NoWeights}
use Rattle.cost_directives.specs.declared.weights.Weights.{Weights}
use Rattle.cost_directives.specs.DirectiveFaults.{Weighs}
use Rattle.command_outcomes.specs.declared.limits.TheConstants.{SCHEMA_LIMIT}
use Rattle.command_words.specs.declared.command.TheConstants.{UNDECLARED}
use Rattle.command_outcomes.specs.declared.checked.SchemaRefusal.{SchemaRefusal}
use Rattle.command_outcomes.specs.declared.checked.SchemaRefusal.TheVariants.{TooLarge, NotText, NoSchemaText, Fails, Misuses}
use Rattle.command_outcomes.specs.declared.checked.CheckFault.{CheckFault}
use Rattle.command_outcomes.specs.declared.checked.CheckFault.TheVariants.{Refused, Memory as CheckMemory}
use Rattle.command_outcomes.specs.declared.outcome.Outcome.{Outcome}
use Rattle.command_outcomes.specs.declared.outcome.Outcome.TheVariants.{Memory}
use Rattle.command_outcomes.specs.SchemaTexts.{counts_text, schema_refusal_text}
use Rattle.command_outcomes.specs.Reading.{IsRead, IsText}
use Rattle.command_outcomes.specs.Outcomes.{FilesTold, NoFileFailed, IsStopped, IsDone, IsRefusedAs}

-- A schema file: a text within its limit that is a schema text with these definitions.
pub record HoldsDefinitions (bytes : List ℕ) (definitions : List DefinitionTree) : Type 0 where
  pub text : IsText SCHEMA_LIMIT bytes
  pub is_schema : HasSchema bytes definitions

-- The file holds definitions for which this holds.
abbrev pub OfDefinitions : List ℕ → (List DefinitionTree → Type 0) → Type 0
OfDefinitions bytes P = (definitions : List DefinitionTree) × HoldsDefinitions bytes definitions × P definitions

-- It holds a schema that passes every test, and this is it.
abbrev pub HoldsChecked : List ℕ → Schema → Type 0
HoldsChecked bytes schema = OfDefinitions bytes (λ definitions. SchemaBuilds definitions (Ok schema))

-- Its cost directives pass every test too.
abbrev pub HoldsWeighed : List ℕ → Schema → Type 0
HoldsWeighed bytes schema = HoldsChecked bytes schema × ((weights : Weights) × Weighs (schema_data schema) UNDECLARED (Ok weights))

-- It holds this schema, with these weights where lists that declare no size have this one.
abbrev pub HoldsWith : List ℕ → ℕ → Schema → Weights → Type 0
HoldsWith bytes undeclared schema weights = HoldsChecked bytes schema × Weighs (schema_data schema) undeclared (Ok weights)

-- It holds a checked schema whose cost directives have this first fault.
abbrev pub HoldsMisused : List ℕ → DirectiveFault → Type 0
HoldsMisused bytes fault = (schema : Schema) × HoldsChecked bytes schema × Weighs (schema_data schema) UNDECLARED (Err fault)

-- Why it holds none: it is longer than its limit; it is within, and no text; it is a text with a fault; or it is a schema
-- text, and this is the first test that it doesn't pass, or that its cost directives don't pass.
abbrev pub IsUnchecked : List ℕ → SchemaRefusal → Type 0
IsUnchecked bytes TooLarge = SCHEMA_LIMIT < length bytes
IsUnchecked bytes NotText = (length bytes ≤ SCHEMA_LIMIT) × ¬ IsUtf8 bytes
IsUnchecked bytes (NoSchemaText fault) = IsText SCHEMA_LIMIT bytes × HasSchemaFault bytes fault
IsUnchecked bytes (Fails fault) = OfDefinitions bytes (λ definitions. SchemaBuilds definitions (Err fault)) × (fault ≢ NoMemory)
IsUnchecked bytes (Misuses fault) = HoldsMisused bytes fault × (fault ≢ NoWeights)

-- where it is a refusal, the file is refused for it
abbrev pub IfUnchecked : CheckFault → List ℕ → Type 0
IfUnchecked (Refused refusal) bytes = IsUnchecked bytes refusal
IfUnchecked CheckMemory bytes = Unit {0}

-- This fault of a text is told, and want of memory as such.
abbrev pub TellsText : SchemaTextFault → CheckFault → Type 0
TellsText fault (Refused (NoSchemaText told)) = (told ≡ fault) × (fault ≢ TextMemory)
TellsText fault (Refused other) = ⊥
TellsText fault CheckMemory = fault ≡ TextMemory

-- This test is told, and want of memory as such.
abbrev pub TellsTest : SchemaFault → CheckFault → Type 0
TellsTest fault (Refused (Fails told)) = (told ≡ fault) × (fault ≢ NoMemory)
TellsTest fault (Refused other) = ⊥
TellsTest fault CheckMemory = fault ≡ NoMemory

-- This test of cost directives is told, and want of memory as such.
abbrev pub TellsDirective : DirectiveFault → CheckFault → Type 0
TellsDirective fault (Refused (Misuses told)) = (told ≡ fault) × (fault ≢ NoWeights)
TellsDirective fault (Refused other) = ⊥
TellsDirective fault CheckMemory = fault ≡ NoWeights

-- By the bytes that were read: the numbers of the schema's types and fields are the output, or the file is refused, or
-- there was no memory.
abbrev pub CheckOf : List ℕ → List ℕ → Outcome → Type 0
CheckOf name bytes outcome = (outcome ≡ Memory)
    ⊎ ((schema : Schema) × HoldsWeighed bytes schema × IsDone (counts_text (schema_data schema).defined (length (schema_data schema).fields)) outcome)
    ⊎ ((refusal : SchemaRefusal) × IsUnchecked bytes refusal × IsRefusedAs (schema_refusal_text name refusal) outcome)

-- The file was not read; or it was, and came to that, and none failed.
abbrev pub CheckCameTo : List ℕ → FilesTold → Outcome → Type 0
CheckCameTo name files outcome = IsStopped (λ other. other ≡ name) files outcome
    ⊎ ((bytes : List ℕ) × IsRead SCHEMA_LIMIT (files.content name) bytes × CheckOf name bytes outcome × NoFileFailed files)
