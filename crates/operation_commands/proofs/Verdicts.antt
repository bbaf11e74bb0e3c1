-- What is found of an operation, by what its price is or why it has none.
use Rattle.std.proofs.Common.{◌≡◌, ◌≤◌, inl, inr, ℕ, List, Bool, [], Option, None, refl, sym, ap, subst}
use Rattle.serde_json.specs.View.{view}
use Rattle.cost_num.specs.declared.TheConstants.{CAP}
use Rattle.cost_num.specs.declared.Cost.{Cost}
use Rattle.schema_model.specs.SchemaData.{has_floats}
use Rattle.schema_model.specs.SchemaViews.{schema_data}
use Rattle.document_reader.specs.declared.trees.Document.{Document}
use Rattle.document_reader.specs.DocumentAnswers.{IsDocumentOf}
use Rattle.acceptance.specs.Requests.{RequestData}
use Rattle.acceptance.specs.Refusals.{}
use Rattle.command_words.specs.declared.command.Asked.{Asked}
use Rattle.command_words.specs.declared.command.AskedAudit.{AskedAudit}
use Rattle.command_outcomes.specs.declared.limits.TheConstants.{DOCUMENT_LIMIT}
use Rattle.command_outcomes.specs.Reading.{IsText}
use Rattle.command_outcomes.specs.Check.{HoldsWith}
use Rattle.operation_commands.specs.declared.asked.AskedTexts.{AskedTexts}
use Rattle.operation_commands.specs.declared.asking.Inputs.{Inputs}
use Rattle.operation_commands.specs.declared.asking.AskedRefusal.{AskedRefusal}
use Rattle.operation_commands.specs.declared.asking.AskedRefusal.TheVariants.{NoSchema, NotJson, BadVariables, NoOperation}
use Rattle.operation_commands.specs.declared.auditing.Auditing.{Auditing}
use Rattle.operation_commands.specs.declared.own_answers.OwnRefusal.{OwnRefusal}
use Rattle.operation_commands.specs.declared.own_answers.OwnRefusal.TheVariants as own
use Rattle.operation_commands.specs.declared.findings.Finding.{Finding}
use Rattle.operation_commands.specs.declared.findings.Verdict.{Verdict}
use Rattle.operation_commands.specs.declared.findings.Verdict.TheVariants.{Priced, Refused}
use Rattle.operation_commands.specs.Asked.{HoldInputs, request_in, IsGiven, LetsFloatsIn, IsUnreadIn}
use Rattle.operation_commands.specs.OwnAnswers.{own_text}
use Rattle.operation_commands.specs.Price.{IsPricedAs, IsPriceRefusal}
use Rattle.operation_commands.specs.Audit.{asked_alone, texts_alone, IsVerdict, IsReady, IsDocumentBy, HasNoOperations, IsWhole, AreFoundIn, names_in, Adds, inputs_of}

pub priced_alone : (asked : Asked) (texts : AskedTexts) (inputs : Inputs) (r : RequestData) (cost : Cost) → HoldInputs asked texts inputs → r ≡ request_in asked inputs → IsPricedAs texts r cost → cost.types ≤ CAP → cost.fields ≤ CAP → IsVerdict asked texts (Priced cost)
priced_alone asked texts inputs r cost held same is types fields = ((inputs, held, subst (λ q. IsPricedAs texts q cost) same is), record { of_types = types; of_fields = fields })

pub refused_alone : (asked : Asked) (texts : AskedTexts) (r : OwnRefusal) (v : Verdict) → IsPriceRefusal asked texts r → v ≡ Refused (own_text asked r) → IsVerdict asked texts v
refused_alone asked texts r v is told = subst (IsVerdict asked texts) (sym told) (inl (r, is, refl))

abbrev texts_with : List ℕ → List ℕ → Option (List ℕ) → AskedTexts
texts_with schema document variables = record { schema = schema; document = document; variables = variables }

alone_texts : (texts : AskedTexts) → texts.variables ≡ None → texts ≡ texts_alone texts.schema texts.document
alone_texts texts alone = ap (λ v. texts_with texts.schema texts.document v) alone

pub verdict_alone : (audit : AskedAudit) (name : List ℕ) (operation : Option (List ℕ)) (asked : Asked) (texts : AskedTexts) (v : Verdict) → asked ≡ asked_alone audit name operation → texts.variables ≡ None
    → IsVerdict asked texts v → IsVerdict (asked_alone audit name operation) (texts_alone texts.schema texts.document) v
verdict_alone audit name operation asked texts v same alone is =
    subst (λ a. IsVerdict a (texts_alone texts.schema texts.document) v) same (subst (λ ts. IsVerdict asked ts v) (alone_texts texts alone) is)

-- whether the schema of an audit lets floats in
abbrev pub floats_in : Auditing → Bool
floats_in of = has_floats (schema_data of.weighed.now.schema)

lets_in : (of : Auditing) (texts : AskedTexts) → IsReady of texts → LetsFloatsIn texts.schema of.asked.now.undeclared (floats_in of)
lets_in of texts ready = (of.weighed.now.schema, of.weighed.now.weights, ready.schema, refl)

pub read_by : (of : Auditing) (texts : AskedTexts) (d : Document) → IsReady of texts → IsDocumentOf (floats_in of) texts.document d → IsDocumentBy of.asked.now texts.schema texts.document d
read_by of texts d ready is = (floats_in of, lets_in of texts ready, is)

module _ (of : Auditing) (texts : AskedTexts) (asked : Asked) (ready : IsReady of texts) (same : asked.undeclared ≡ of.asked.now.undeclared) where
  schema_alone : HoldsWith texts.schema asked.undeclared of.weighed.now.schema of.weighed.now.weights
  schema_alone = subst (λ n. HoldsWith texts.schema n of.weighed.now.schema of.weighed.now.weights) (sym same) ready.schema

  given_alone : IsGiven texts.variables (view of.given.now)
  given_alone = subst (λ v. IsGiven v (view of.given.now)) (sym ready.alone) ready.given

  pub held_alone : (document : Document) → IsDocumentOf (floats_in of) texts.document document → HoldInputs asked texts (inputs_of of document)
  held_alone document is = record { is_schema = schema_alone; is_given = given_alone; is_document = is }

  pub unread_alone : (refusal : AskedRefusal) (v : Verdict) → IsUnreadIn (floats_in of) texts.document refusal → v ≡ Refused (own_text asked (own.Asked refusal)) → IsVerdict asked texts v
  unread_alone (NoSchema r) v unread told = absurd unread
  unread_alone NotJson v unread told = absurd unread
  unread_alone BadVariables v unread told = absurd unread
  unread_alone (NoOperation r) v unread told =
      refused_alone asked texts (own.Asked (NoOperation r)) v
      (inl ((view of.given.now, given_alone), (floats_in of, (of.weighed.now.schema, of.weighed.now.weights, schema_alone, refl), unread))) told

-- ---- documents that are looked at as a whole

no_operations : (of : Auditing) (texts : AskedTexts) (refusal : AskedRefusal) → IsReady of texts → IsUnreadIn (floats_in of) texts.document refusal → HasNoOperations of.asked.now texts.schema texts.document
no_operations of texts (NoSchema r) ready unread = absurd unread
no_operations of texts NotJson ready unread = absurd unread
no_operations of texts BadVariables ready unread = absurd unread
no_operations of texts (NoOperation r) ready unread = inr (r, floats_in of, lets_in of texts ready, unread)

module _ (of : Auditing) (texts : AskedTexts) (ready : IsReady of texts) (text : IsText DOCUMENT_LIMIT texts.document) (name : List ℕ) (asked : Asked) (is : asked ≡ asked_alone of.asked.now name None) where
  whole_found : (v : Verdict) (before after : List Finding) → HasNoOperations of.asked.now texts.schema texts.document → IsVerdict asked texts v → Adds (IsWhole name v) before after
      → Adds (AreFoundIn of.asked.now texts.schema name texts.document) before after
  whole_found v before after none verdict adds =
      (adds.0, adds.1, inr (inr (inr (text, (none, (v, adds.2, verdict_alone of.asked.now name None asked texts v is ready.alone verdict))))))

  pub unread_found : (refusal : AskedRefusal) (v : Verdict) (before after : List Finding) → IsUnreadIn (floats_in of) texts.document refusal → v ≡ Refused (own_text asked (own.Asked refusal)) → Adds (IsWhole name v) before after
      → Adds (AreFoundIn of.asked.now texts.schema name texts.document) before after
  unread_found refusal v before after unread told =
      whole_found v before after (no_operations of texts refusal ready unread) (unread_alone of texts asked ready (ap (λ a. a.undeclared) is) refusal v unread told)

  pub empty_found : (d : Document) (v : Verdict) (before now after : List Finding) → IsDocumentOf (floats_in of) texts.document d → names_in d.definitions.items ≡ [] → now ≡ before → IsVerdict asked texts v → Adds (IsWhole name v) now after
      → Adds (AreFoundIn of.asked.now texts.schema name texts.document) before after
  empty_found d v before now after is_document none same verdict adds =
      whole_found v before after (inl (d, read_by of texts d ready is_document, none)) verdict (subst (λ fs. Adds (IsWhole name v) fs after) same adds)
