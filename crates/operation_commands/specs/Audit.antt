-- What an audit comes to: what each operation of some documents costs at most, or why it has no price.
use Rattle.std.specs.Prelude.{◌≡◌, ◌≢◌, ◌⊎◌, ◌≤◌, ◌<◌, ◌+◌, ◌&&◌, ℕ, max, Bool, true, false, List, [], ◌∷◌, ◌++◌, All, Contains, IsUtf8, length, flat_map, nat_le, Option, None, Some, IsSome, option_map, codes}
use Rattle.std.specs.List.{AllZip, list_all, filter}
use Rattle.std.specs.Fmt.{decimal}
use Rattle.gql_base.specs.printing.OneLine.{shown_in_line}
use Rattle.cost_num.specs.declared.Cost.{Cost}
use Rattle.cost_num.specs.CostText.{cost_text}
use Rattle.static_cost.specs.CostBound.{IsWithin}
use Rattle.schema_model.specs.declared.schema.Schema.{Schema}
use Rattle.cost_directives.specs.declared.weights.Weights.{Weights}
use Rattle.document_reader.specs.declared.trees.Document.{Document}
use Rattle.document_reader.specs.declared.trees.Definition.{Definition}
use Rattle.document_reader.specs.declared.trees.Definition.TheVariants.{Op, Frag}
use Rattle.document_reader.specs.DocumentAnswers.{IsDocumentOf}
use Rattle.acceptance.specs.declared.fault.Refusal.{Refusal}
use Rattle.acceptance.specs.Refusals.{IsUnread}
use Rattle.command_words.specs.declared.command.Asked.{Asked}
use Rattle.command_words.specs.declared.command.AskedAudit.{AskedAudit}
use Rattle.command_outcomes.specs.declared.limits.TheConstants.{SCHEMA_LIMIT, DOCUMENT_LIMIT}
use Rattle.command_outcomes.specs.declared.checked.SchemaRefusal.{SchemaRefusal}
use Rattle.command_outcomes.specs.declared.outcome.Outcome.{Outcome}
use Rattle.command_outcomes.specs.declared.outcome.Outcome.TheVariants.{Memory}
use Rattle.command_outcomes.specs.Texts.{too_large_text, not_text_text, line}
use Rattle.command_outcomes.specs.SchemaTexts.{schema_refusal_text}
use Rattle.command_outcomes.specs.Reading.{IsRead, IsText, IsTextOf, HoldsText, HasNoText}
use Rattle.command_outcomes.specs.Outcomes.{FilesTold, NoFileFailed, IsStopped, IsRefusedAs, IsAudited}
use Rattle.counted_work.specs.Counted.{work_text}
use Rattle.command_outcomes.specs.Check.{HoldsWith, IsUnchecked}
use Rattle.serde_json.specs.View.{view}
use Rattle.operation_commands.specs.Asked.{IsGiven, LetsFloatsIn}
use Rattle.operation_commands.specs.declared.asking.Inputs.{Inputs}
use Rattle.operation_commands.specs.declared.auditing.Auditing.{Auditing}
use Rattle.operation_commands.specs.declared.asked.AskedTexts.{AskedTexts}
use Rattle.operation_commands.specs.declared.own_answers.OwnRefusal.{OwnRefusal}
use Rattle.operation_commands.specs.declared.findings.Subject.{Subject}
use Rattle.operation_commands.specs.declared.findings.Subject.TheVariants.{Whole, Unnamed, Named}
use Rattle.operation_commands.specs.declared.findings.Verdict.{Verdict}
use Rattle.operation_commands.specs.declared.findings.Verdict.TheVariants.{Priced, Refused}
use Rattle.operation_commands.specs.declared.findings.Finding.{Finding}
use Rattle.operation_commands.specs.OwnAnswers.{own_text}
use Rattle.operation_commands.specs.Price.{HasPrice, IsPriceRefusal}
use Rattle.operation_commands.specs.Steps.{AreSteps, steps_text}

-- ---- what is found

-- an operation of a document alone, as its price is asked for
abbrev pub asked_alone : AskedAudit → List ℕ → Option (List ℕ) → Asked
asked_alone audit document name = record {
  schema = audit.schema;
  document = document;
  variables = None;
  operation = name;
  undeclared = audit.undeclared;
  most_work = audit.most_work;
}

abbrev pub texts_alone : List ℕ → List ℕ → AskedTexts
texts_alone schema document = record { schema = schema; document = document; variables = None }

-- The verdict is the price of the operation, within the cap, or the text by which it is refused a price; or that it takes more steps than it
-- may, where a number of them was given.
abbrev pub IsVerdict : Asked → AskedTexts → Verdict → Type 0
IsVerdict asked texts (Priced cost) = HasPrice asked texts cost × IsWithin cost
IsVerdict asked texts (Refused text) = ((r : OwnRefusal) × IsPriceRefusal asked texts r × (text ≡ own_text asked r)) ⊎ (IsSome asked.most_work × (text ≡ work_text))

-- How many steps were taken is told of a price alone, where a number of them was given.
abbrev pub TellsSteps : Option ℕ → Verdict → Option ℕ → Type 0
TellsSteps most (Priced cost) steps = AreSteps most steps
TellsSteps most (Refused text) steps = steps ≡ None

-- the name of a definition that is an operation, if it has one
abbrev pub operation_names : Definition → List (Option (List ℕ))
operation_names (Op o) = option_map (λ n. n.text) o.name ∷ []
operation_names (Frag f) = []

-- those of the operations of a document, in their order
abbrev pub names_in : List Definition → List (Option (List ℕ))
names_in definitions = flat_map operation_names definitions

abbrev pub subject_of : Option (List ℕ) → Subject
subject_of None = Unnamed
subject_of (Some name) = Named name

-- What was found of one of the operations of a document: just what its price is, or why it has none.
pub record IsFinding (audit : AskedAudit) (schema name text : List ℕ) (operation : Option (List ℕ)) (f : Finding) : Type 0 where
  pub document : f.document ≡ name
  pub subject : f.subject ≡ subject_of operation
  pub verdict : IsVerdict (asked_alone audit name operation) (texts_alone schema text) f.verdict
  pub is_steps : TellsSteps audit.most_work f.verdict f.steps

-- The one finding is of the document as a whole.
abbrev pub IsWhole : List ℕ → Verdict → List Finding → Type 0
IsWhole name v findings = findings ≡ record { document = name; subject = Whole; verdict = v; steps = None } ∷ []

-- The text is this document, with floats where the schema's text lets them in.
abbrev pub IsDocumentBy : AskedAudit → List ℕ → List ℕ → Document → Type 0
IsDocumentBy audit schema text d = (floats : Bool) × LetsFloatsIn schema audit.undeclared floats × IsDocumentOf floats text d

-- The text is a document with operations, and there is one finding for each, in their order.
abbrev pub FindsOperations : AskedAudit → List ℕ → List ℕ → List ℕ → List Finding → Type 0
FindsOperations audit schema name text findings = (d : Document) × IsDocumentBy audit schema text d × (names_in d.definitions.items ≢ [])
    × AllZip (IsFinding audit schema name text) (names_in d.definitions.items) findings

-- The text is a document without operations, or it is none.
abbrev pub HasNoOperations : AskedAudit → List ℕ → List ℕ → Type 0
HasNoOperations audit schema text = ((d : Document) × IsDocumentBy audit schema text d × (names_in d.definitions.items ≡ []))
    ⊎ ((refusal : Refusal) × (floats : Bool) × LetsFloatsIn schema audit.undeclared floats × IsUnread floats text refusal)

-- It has none, and there is one finding of it as a whole: what is said where the price of its one operation is asked for.
abbrev pub FindsNone : AskedAudit → List ℕ → List ℕ → List ℕ → List Finding → Type 0
FindsNone audit schema name text findings = HasNoOperations audit schema text
    × ((v : Verdict) × IsWhole name v findings × IsVerdict (asked_alone audit name None) (texts_alone schema text) v)

-- What was found in the bytes of a document's file: they are too many, or no text, or one of these.
abbrev pub AreFoundIn : AskedAudit → List ℕ → List ℕ → List ℕ → List Finding → Type 0
AreFoundIn audit schema name bytes findings = ((DOCUMENT_LIMIT < length bytes) × IsWhole name (Refused (too_large_text name)) findings)
    ⊎ ((length bytes ≤ DOCUMENT_LIMIT) × (¬ IsUtf8 bytes) × IsWhole name (Refused (not_text_text name)) findings)
    ⊎ (IsText DOCUMENT_LIMIT bytes × FindsOperations audit schema name bytes findings)
    ⊎ (IsText DOCUMENT_LIMIT bytes × FindsNone audit schema name bytes findings)

-- What was found in files of these names that hold these bytes: what was found in each, one after another.
abbrev pub AreFound : AskedAudit → List ℕ → List (List ℕ) → List (List ℕ) → List Finding → Type 0
AreFound audit schema [] [] findings = findings ≡ []
AreFound audit schema (name ∷ names) (bytes ∷ more) findings =
    (first rest : List Finding) × (findings ≡ first ++ rest) × AreFoundIn audit schema name bytes first × AreFound audit schema names more rest
AreFound audit schema names contents findings = ⊥

-- ---- what is told of it

abbrev pub subject_text : Subject → List ℕ
subject_text Whole = []
subject_text Unnamed = codes " -"
subject_text (Named name) = 32 ∷ name

abbrev pub verdict_text : Verdict → List ℕ
verdict_text (Priced cost) = cost_text cost
verdict_text (Refused text) = text

-- the name of the document's file, that of the operation, and its price or its refusal, and how many steps the price took
abbrev pub finding_text : Finding → List ℕ
finding_text f = shown_in_line f.document ++ (subject_text f.subject ++ (32 ∷ (verdict_text f.verdict ++ steps_text (codes " ") f.steps)))

abbrev pub is_operation : Subject → Bool
is_operation Whole = false
is_operation Unnamed = true
is_operation (Named name) = true

abbrev pub is_priced : Verdict → Bool
is_priced (Priced cost) = true
is_priced (Refused text) = false

abbrev pub operations_of : List Finding → ℕ
operations_of fs = length (filter (λ f. is_operation f.subject) fs)

abbrev pub prices_of : List Finding → ℕ
prices_of fs = length (filter (λ f. is_priced f.verdict) fs)

-- A price is within the cap.
abbrev pub IsPriceWithin : Verdict → Type 0
IsPriceWithin (Priced cost) = IsWithin cost
IsPriceWithin (Refused text) = Unit {0}

abbrev pub ArePricesWithin : List Finding → Type 0
ArePricesWithin fs = All (λ f. IsPriceWithin f.verdict) fs

-- of each part of two costs the greater
abbrev pub greater : Cost → Cost → Cost
greater a b = record { types = max a.types b.types; fields = max a.fields b.fields }

abbrev pub price_in : Verdict → Cost
price_in (Priced cost) = cost
price_in (Refused text) = record { types = 0; fields = 0 }

-- the greatest of each part that an operation costs; 0 where none has a price
abbrev pub greatest : List Finding → Cost
greatest [] = record { types = 0; fields = 0 }
greatest (f ∷ fs) = greater (price_in f.verdict) (greatest fs)

-- how many operations there are, and how many of them have a price
abbrev pub counted_text : ℕ → ℕ → List ℕ
counted_text operations priced = codes "operations " ++ (decimal operations ++ (codes " priced " ++ (decimal priced ++ codes " greatest ")))

-- these, and what they cost at most
abbrev pub totals_text : List Finding → List ℕ
totals_text fs = counted_text (operations_of fs) (prices_of fs) ++ cost_text (greatest fs)

-- a line for each finding, and the totals
abbrev pub audit_text : List Finding → List ℕ
audit_text fs = flat_map (λ f. line (finding_text f)) fs ++ totals_text fs

-- no part is greater than what is said
abbrev pub is_within : Option Cost → Cost → Bool
is_within None cost = true
is_within (Some most) cost = nat_le cost.types most.types && nat_le cost.fields most.fields

-- it is a price, within what is said
abbrev pub passes : Option Cost → Verdict → Bool
passes most (Priced cost) = is_within most cost
passes most (Refused text) = false

abbrev pub all_pass : Option Cost → List Finding → Bool
all_pass most fs = list_all (λ f. passes most f.verdict) fs

-- ---- the outcome

-- The lines tell what was found, and whether all passed.
abbrev pub IsAuditOf : Option Cost → List Finding → Outcome → Type 0
IsAuditOf most findings outcome = IsAudited (audit_text findings) (all_pass most findings) outcome

-- The text is a schema with good weights, where lists that declare no size have this one.
abbrev pub IsSchemaWith : List ℕ → ℕ → Type 0
IsSchemaWith text undeclared = (schema : Schema) × (weights : Weights) × HoldsWith text undeclared schema weights

-- By the schema's text and the bytes of the documents: the schema is a good one and the audit is done, or it is refused, or there was
-- no memory.
abbrev pub AuditOf : AskedAudit → List ℕ → List (List ℕ) → Outcome → Type 0
AuditOf audit schema contents outcome = (outcome ≡ Memory)
    ⊎ (IsSchemaWith schema audit.undeclared
    × ((findings : List Finding) × AreFound audit schema audit.documents.items contents findings × IsAuditOf audit.most findings outcome))
    ⊎ ((refusal : SchemaRefusal) × IsUnchecked schema refusal × IsRefusedAs (schema_refusal_text audit.schema refusal) outcome)

-- These bytes were read of the files of these names.
abbrev pub AreRead : (List ℕ → Option (List ℕ)) → List (List ℕ) → List (List ℕ) → Type 0
AreRead content names contents = AllZip (λ name bytes. IsRead DOCUMENT_LIMIT (content name) bytes) names contents

-- The schema was not read, or holds no text; or it is one, and a document was not read; or all were read, came to that, and none failed.
abbrev pub AuditCameTo : AskedAudit → FilesTold → Outcome → Type 0
AuditCameTo audit files outcome = HasNoText SCHEMA_LIMIT audit.schema files outcome
    ⊎ (HoldsText SCHEMA_LIMIT (files.content audit.schema) × IsStopped (Contains audit.documents.items) files outcome)
    ⊎ ((schema : List ℕ) × (contents : List (List ℕ)) × IsTextOf SCHEMA_LIMIT (files.content audit.schema) schema
    × AreRead files.content audit.documents.items contents × AuditOf audit schema contents outcome × NoFileFailed files)

-- ---- in the service of the code

-- The texts are those of one document alone, which is looked at by the schema of the audit.
pub record IsReady (of : Auditing) (texts : AskedTexts) : Type 0 where
  pub text : IsText SCHEMA_LIMIT texts.schema
  pub schema : HoldsWith texts.schema of.asked.now.undeclared of.weighed.now.schema of.weighed.now.weights
  pub given : IsGiven None (view of.given.now)
  pub alone : texts.variables ≡ None

-- what is found of the operations with these names, one after another, in a document
abbrev pub FindEach : AskedAudit → AskedTexts → List ℕ → List (Option (List ℕ)) → List Finding → Type 0
FindEach audit texts name operations findings = AllZip (IsFinding audit texts.schema name texts.document) operations findings

-- Findings for which this holds were added.
abbrev pub Adds : (List Finding → Type 0) → List Finding → List Finding → Type 0
Adds P before after = (more : List Finding) × (after ≡ before ++ more) × P more

-- These bytes were read of a file and added.
abbrev pub AddsRead : Option (List ℕ) → List (List ℕ) → List (List ℕ) → Type 0
AddsRead content before after = (bytes : List ℕ) × IsRead DOCUMENT_LIMIT content bytes × (after ≡ before ++ bytes ∷ [])

-- what is held where a document was read
abbrev pub inputs_of : Auditing → Document → Inputs
inputs_of of document = record { weighed = of.weighed.now; document = document; given = of.given.now }
