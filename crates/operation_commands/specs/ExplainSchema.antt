-- What an explain command of a schema comes to.
use Rattle.std.specs.Prelude.{◌≡◌, ◌⊎◌, ℕ, List}
use Rattle.schema_model.specs.declared.schema.Schema.{Schema}
use Rattle.schema_model.specs.SchemaViews.{schema_data}
use Rattle.cost_directives.specs.declared.weights.Weights.{Weights}
use Rattle.cost_directives.specs.WeightViews.{weights_data}
use Rattle.schema_surprises.specs.Surprises.{report_text}
use Rattle.command_outcomes.specs.declared.limits.TheConstants.{SCHEMA_LIMIT}
use Rattle.command_outcomes.specs.declared.checked.SchemaRefusal.{SchemaRefusal}
use Rattle.command_outcomes.specs.declared.outcome.Outcome.{Outcome}
use Rattle.command_outcomes.specs.declared.outcome.Outcome.TheVariants.{Memory}
use Rattle.command_outcomes.specs.SchemaTexts.{schema_refusal_text}
use Rattle.command_outcomes.specs.Reading.{IsTextOf, HasNoText}
use Rattle.command_outcomes.specs.Outcomes.{FilesTold, NoFileFailed, IsDone}
use Rattle.command_outcomes.specs.Check.{HoldsWith, IsUnchecked}
use Rattle.operation_commands.specs.Places.{IsSchemaSpot}
use Rattle.operation_commands.specs.Explain.{IsRefusedTelling, TellsUnread}

-- What surprises in the schema, where lists that declare no size have this one.
abbrev pub IsReported : ℕ → List ℕ → Outcome → Type 0
IsReported undeclared text outcome = (schema : Schema) × (weights : Weights) × HoldsWith text undeclared schema weights
    × IsDone (report_text (schema_data schema) (weights_data weights)) outcome

-- It is refused as `check` refuses it, and the text tells why, and where.
abbrev pub IsSchemaRefused : List ℕ → List ℕ → Outcome → Type 0
IsSchemaRefused name text outcome = (refusal : SchemaRefusal) × IsUnchecked text refusal × IsRefusedTelling (schema_refusal_text name refusal) (IsSchemaSpot text refusal) outcome

-- By the text: it is told what surprises in it, or why it is refused, or there was no memory.
abbrev pub ExplainSchemaOf : List ℕ → ℕ → List ℕ → Outcome → Type 0
ExplainSchemaOf name undeclared text outcome = (outcome ≡ Memory) ⊎ IsReported undeclared text outcome ⊎ IsSchemaRefused name text outcome

-- The file was not read, or holds no text; or it is one, came to that, and none failed.
abbrev pub ExplainSchemaCameTo : List ℕ → ℕ → FilesTold → Outcome → Type 0
ExplainSchemaCameTo name undeclared files outcome = ((unread : Outcome) × HasNoText SCHEMA_LIMIT name files unread × TellsUnread unread outcome)
    ⊎ ((text : List ℕ) × IsTextOf SCHEMA_LIMIT (files.content name) text × ExplainSchemaOf name undeclared text outcome × NoFileFailed files)
