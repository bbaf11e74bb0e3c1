-- An operation of files: what its files hold, and why it is refused.
use Rattle.std.specs.Prelude.{◌≡◌, ◌⊎◌, ℕ, Bool, List, Option, None, Some, true, false, codes}
use Rattle.std.specs.Option.{is_some}
use Rattle.serde_json.specs.Data.{Data, object, no_members}
use Rattle.serde_json.specs.Read.{read as read_text}
use Rattle.serde_json.specs.Find.{as_object}
use Rattle.serde_json.specs.View.{view}
use Rattle.document_reader.specs.DocumentAnswers.{IsDocumentOf}
use Rattle.schema_model.specs.declared.schema.Schema.{Schema}
use Rattle.schema_model.specs.SchemaData.{has_floats}
use Rattle.schema_model.specs.SchemaViews.{schema_data}
use Rattle.cost_directives.specs.declared.weights.Weights.{Weights}
use Rattle.cost_directives.specs.WeightViews.{weights_data}
use Rattle.command_words.specs.declared.command.Asked.{Asked}
use Rattle.acceptance.specs.Requests.{RequestData}
use Rattle.acceptance.specs.declared.fault.Refusal.{Refusal}
use Rattle.acceptance.specs.Refusals.{IsUnread, IsRefusedFor}
use Rattle.acceptance.specs.Texts.{refusal_text}
use Rattle.command_outcomes.specs.declared.limits.TheConstants.{SCHEMA_LIMIT, DOCUMENT_LIMIT, VARIABLES_LIMIT}
use Rattle.operation_commands.specs.declared.asked.AskedTexts.{AskedTexts}
use Rattle.operation_commands.specs.declared.asking.Inputs.{Inputs}
use Rattle.operation_commands.specs.declared.asking.AskedRefusal.{AskedRefusal}
use Rattle.operation_commands.specs.declared.asking.AskedRefusal.TheVariants.{NoSchema, NotJson, BadVariables, NoOperation}
use Rattle.operation_commands.specs.declared.asking.AskedFault.{AskedFault}
use Rattle.operation_commands.specs.declared.asking.AskedFault.TheVariants.{Refused, Memory}
use Rattle.command_outcomes.specs.declared.outcome.Outcome.{Outcome}
use Rattle.command_outcomes.specs.Outcomes.{FilesTold, IsRefusedAs}
use Rattle.command_outcomes.specs.Reading.{IsTextOf, HoldsText, HasNoText}
use Rattle.command_outcomes.specs.Check.{HoldsWith, IsUnchecked}
use Rattle.command_outcomes.specs.SchemaTexts.{schema_refusal_text}

-- ---- the texts of the files

-- The file of the variables is this text, where one is named.
abbrev pub HoldVariables : Option (List ℕ) → (List ℕ → Option (List ℕ)) → Option (List ℕ) → Type 0
HoldVariables None content None = Unit {0}
HoldVariables (Some name) content (Some text) = IsTextOf VARIABLES_LIMIT (content name) text
HoldVariables None content (Some text) = ⊥
HoldVariables (Some name) content None = ⊥

abbrev pub HasNoVariables : Option (List ℕ) → FilesTold → Outcome → Type 0
HasNoVariables None files outcome = ⊥
HasNoVariables (Some name) files outcome = HasNoText VARIABLES_LIMIT name files outcome

-- The files are these texts.
pub record HoldTexts (asked : Asked) (content : List ℕ → Option (List ℕ)) (texts : AskedTexts) : Type 0 where
  pub is_schema : IsTextOf SCHEMA_LIMIT (content asked.schema) texts.schema
  pub is_document : IsTextOf DOCUMENT_LIMIT (content asked.document) texts.document
  pub are_variables : HoldVariables asked.variables content texts.variables

-- The files of the schema and of the document are texts.
abbrev pub HoldOperation : Asked → (List ℕ → Option (List ℕ)) → Type 0
HoldOperation asked content = HoldsText SCHEMA_LIMIT (content asked.schema) × HoldsText DOCUMENT_LIMIT (content asked.document)

-- The schema was not read, or holds no text; or it is one, and so it is of the document.
abbrev pub HaveNoOperation : Asked → FilesTold → Outcome → Type 0
HaveNoOperation asked files outcome = HasNoText SCHEMA_LIMIT asked.schema files outcome
    ⊎ (HoldsText SCHEMA_LIMIT (files.content asked.schema) × HasNoText DOCUMENT_LIMIT asked.document files outcome)

-- The first of the files that was not read, or holds no text: the schema, the document, the variables.
abbrev pub HaveNoTexts : Asked → FilesTold → Outcome → Type 0
HaveNoTexts asked files outcome = HaveNoOperation asked files outcome ⊎ (HoldOperation asked files.content × HasNoVariables asked.variables files outcome)

-- ---- what the texts hold

-- What is given for the variables: an object of JSON; where no file is named, the empty one.
abbrev pub IsGiven : Option (List ℕ) → Data → Type 0
IsGiven None json = json ≡ object no_members
IsGiven (Some text) json = (read_text text ≡ Some json) × (is_some (as_object json) ≡ true)

-- The texts hold these inputs.
pub record HoldInputs (asked : Asked) (texts : AskedTexts) (inputs : Inputs) : Type 0 where
  pub is_schema : HoldsWith texts.schema asked.undeclared inputs.weighed.schema inputs.weighed.weights
  pub is_given : IsGiven texts.variables (view inputs.given)
  pub is_document : IsDocumentOf (has_floats (schema_data inputs.weighed.schema)) texts.document inputs.document

-- what is asked
abbrev pub request_in : Asked → Inputs → RequestData
request_in asked inputs = record {
  schema = schema_data inputs.weighed.schema;
  weights = weights_data inputs.weighed.weights;
  document = inputs.document.definitions.items;
  name = asked.operation;
  given = view inputs.given;
}

-- ---- why it is refused

-- The text of the variables is no JSON, or no object.
abbrev pub IsUngiven : Option (List ℕ) → AskedRefusal → Type 0
IsUngiven (Some text) NotJson = read_text text ≡ None
IsUngiven (Some text) BadVariables = (json : Data) × (read_text text ≡ Some json) × (is_some (as_object json) ≡ false)
IsUngiven variables other = ⊥

-- The schema's text holds a schema with its weights.
abbrev pub HoldsSchema : Asked → AskedTexts → Type 0
HoldsSchema asked texts = (schema : Schema) × (weights : Weights) × HoldsWith texts.schema asked.undeclared schema weights

-- Something is given for the variables.
abbrev pub HoldsGiven : AskedTexts → Type 0
HoldsGiven texts = (given : Data) × IsGiven texts.variables given

-- The text holds a schema, by which floats are let in or aren't.
abbrev pub LetsFloatsIn : List ℕ → ℕ → Bool → Type 0
LetsFloatsIn text undeclared floats = (schema : Schema) × (weights : Weights) × HoldsWith text undeclared schema weights × (floats ≡ has_floats (schema_data schema))

-- The document's text is none, for this reason, where what stands before is given.
abbrev pub IsUnreadOf : Asked → AskedTexts → Refusal → Type 0
IsUnreadOf asked texts refusal = HoldsGiven texts × ((floats : Bool) × LetsFloatsIn texts.schema asked.undeclared floats × IsUnread floats texts.document refusal)

-- The first reason in this order: of the schema, of the variables, of the document's text, of the operation.
abbrev pub IsRefusalOf : Asked → AskedTexts → AskedRefusal → Type 0
IsRefusalOf asked texts (NoSchema refusal) = IsUnchecked texts.schema refusal
IsRefusalOf asked texts NotJson = HoldsSchema asked texts × IsUngiven texts.variables NotJson
IsRefusalOf asked texts BadVariables = HoldsSchema asked texts × IsUngiven texts.variables BadVariables
IsRefusalOf asked texts (NoOperation refusal) = IsUnreadOf asked texts refusal
    ⊎ ((inputs : Inputs) × HoldInputs asked texts inputs × IsRefusedFor (request_in asked inputs) refusal)

-- The texts hold nothing of which an operation is asked, for this reason: it is none of the operation.
abbrev pub IsNoInputsOf : Asked → AskedTexts → AskedRefusal → Type 0
IsNoInputsOf asked texts (NoOperation refusal) = IsUnreadOf asked texts refusal
IsNoInputsOf asked texts other = IsRefusalOf asked texts other

-- The schema's text holds none, for this reason.
abbrev pub IsNoSchemaOf : List ℕ → AskedRefusal → Type 0
IsNoSchemaOf text (NoSchema refusal) = IsUnchecked text refusal
IsNoSchemaOf text other = ⊥

-- The document's text is none, for this reason.
abbrev pub IsUnreadIn : Bool → List ℕ → AskedRefusal → Type 0
IsUnreadIn floats text (NoOperation refusal) = IsUnread floats text refusal
IsUnreadIn floats text other = ⊥

-- What is asked is refused, for this reason.
abbrev pub IsNoOperationOf : RequestData → AskedRefusal → Type 0
IsNoOperationOf r (NoOperation refusal) = IsRefusedFor r refusal
IsNoOperationOf r other = ⊥

-- where it is a refusal, this holds of it
abbrev pub IfAskedRefused : AskedFault → (AskedRefusal → Type 0) → Type 0
IfAskedRefused (Refused refusal) P = P refusal
IfAskedRefused Memory P = Unit {0}

-- the text of a refusal
abbrev pub asked_text : Asked → AskedRefusal → List ℕ
asked_text asked (NoSchema refusal) = schema_refusal_text asked.schema refusal
asked_text asked NotJson = codes "body 1 NotJson"
asked_text asked BadVariables = codes "body 5 BadVariables"
asked_text asked (NoOperation refusal) = refusal_text refusal

-- The operation of the texts is refused, and the text says why.
abbrev pub IsAskedRefused : Asked → AskedTexts → Outcome → Type 0
IsAskedRefused asked texts outcome = (refusal : AskedRefusal) × IsRefusalOf asked texts refusal × IsRefusedAs (asked_text asked refusal) outcome
