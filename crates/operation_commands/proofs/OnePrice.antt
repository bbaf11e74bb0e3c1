-- The texts of an operation are read in one way, and so it has one price or one refusal.
use Rattle.std.proofs.Common.{◌≡◌, inl, inr, ◌∙◌, ℕ, List, map, Bool, true, false, Option, None, Some, refl, sym, ap, subst}
use Rattle.std.proofs.lemmas.Option.{none-some, same_Some}
use Rattle.cost_num.specs.declared.Cost.{Cost}
use Rattle.response_model.specs.Plan.{Plan as PlanTree}
use Rattle.serde_json.specs.Data.{Data}
use Rattle.serde_json.specs.Find.{as_object}
use Rattle.serde_json.specs.View.{view}
use Rattle.std.specs.Option.{is_some}
use Rattle.document_reader.specs.declared.trees.Document.{Document}
use Rattle.document_reader.specs.declared.document.DocFault.{DocFault}
use Rattle.document_reader.specs.Documents.{DefinitionTree}
use Rattle.document_reader.specs.Trees.{definition_tree}
use Rattle.document_reader.specs.Places.{operation_offset}
use Rattle.document_reader.specs.DocumentAnswers.{IsDocumentOf, HasDocument, HasDocumentFault}
use Rattle.schema_model.specs.declared.schema.Schema.{Schema}
use Rattle.schema_model.specs.SchemaData.{has_floats}
use Rattle.schema_model.specs.SchemaViews.{schema_data}
use Rattle.cost_directives.specs.Weights.{weights_of}
use Rattle.command_words.specs.declared.command.Asked.{Asked}
use Rattle.plan_table.specs.declared.table.Plan.{Plan}
use Rattle.acceptance.specs.declared.fault.Refusal.{Refusal}
use Rattle.acceptance.specs.declared.fault.Refusal.TheVariants.{Document as NoDocument, Pick, Rule, Variable, Plan as NoPlan, Bound}
use Rattle.acceptance.specs.Requests.{RequestData, Prepared, plan_tree}
use Rattle.acceptance.specs.Bounds.{IsAccepted}
use Rattle.acceptance.specs.Refusals.{IsUnread, IsRefusedFor}
use Rattle.acceptance.specs.AskAlike.{AskAlike}
use Rattle.command_outcomes.proofs.WeighedSchemas.{weighed}
use Rattle.operation_commands.specs.declared.asked.AskedTexts.{AskedTexts}
use Rattle.operation_commands.specs.declared.asking.Inputs.{Inputs}
use Rattle.operation_commands.specs.declared.asking.AskedRefusal.{AskedRefusal}
use Rattle.operation_commands.specs.declared.asking.AskedRefusal.TheVariants.{NoSchema, NotJson, BadVariables, NoOperation}
use Rattle.command_outcomes.specs.declared.checked.SchemaRefusal.{SchemaRefusal}
use Rattle.command_outcomes.specs.Check.{HoldsChecked, HoldsWeighed, IsUnchecked}
use Rattle.operation_commands.specs.Asked.{IsGiven, HoldInputs, request_in, IsUngiven, HoldsSchema, HoldsGiven, LetsFloatsIn, IsUnreadOf, IsRefusalOf}
use Rattle.operation_commands.specs.Price.{HasBound}
use Rattle.operation_commands.specs.Worst.{OfPlan}

-- A text is read in one way, and two requests that ask the same are answered alike.
pub record OneReading : Type 0 where
  pub one_schema : (bytes : List ℕ) (schema other : Schema) → HoldsChecked bytes schema → HoldsChecked bytes other → schema_data schema ≡ schema_data other
  pub trees : (floats : Bool) (text : List ℕ) (document other : Document) → IsDocumentOf floats text document → IsDocumentOf floats text other → map definition_tree document.definitions.items ≡ map definition_tree other.definitions.items
  pub offsets : (floats : Bool) (text : List ℕ) (document other : Document) → IsDocumentOf floats text document → IsDocumentOf floats text other → map operation_offset document.definitions.items ≡ map operation_offset other.definitions.items

-- Refusals exclude one another, and what is accepted.
pub record OneRefusal : Type 0 where
  pub reading : OneReading
  pub checked_or_not : (bytes : List ℕ) (schema : Schema) (refusal : SchemaRefusal) → HoldsWeighed bytes schema → IsUnchecked bytes refusal → ⊥
  pub one_check : (bytes : List ℕ) (refusal other : SchemaRefusal) → IsUnchecked bytes refusal → IsUnchecked bytes other → refusal ≡ other
  pub read_or_not : (floats : Bool) (text : List ℕ) (trees : List DefinitionTree) (fault : DocFault) → HasDocument floats text trees → HasDocumentFault floats text fault → ⊥
  pub one_fault : (floats : Bool) (text : List ℕ) (fault other : DocFault) → HasDocumentFault floats text fault → HasDocumentFault floats text other → fault ≡ other
  pub documents : (floats : Bool) (text : List ℕ) (document : Document) → IsDocumentOf floats text document → HasDocument floats text (map definition_tree document.definitions.items)
  pub accepted_or_not : (r q : RequestData) (plan : Plan) (bound : Cost) (refusal : Refusal) → AskAlike r q → IsAccepted r plan bound → IsRefusedFor q refusal → ⊥
  pub one_refusal : (r q : RequestData) (refusal other : Refusal) → AskAlike r q → IsRefusedFor r refusal → IsRefusedFor q other → refusal ≡ other

-- ---- the texts of one operation ask the same

one_given : (variables : Option (List ℕ)) (json other : Data) → IsGiven variables json → IsGiven variables other → json ≡ other
one_given None json other a b = a ∙ sym b
one_given (Some text) json other a b = same_Some json other (sym a.0 ∙ b.0)

-- whether floats are let in is read in one way
pub one_floats : OneReading → (text : List ℕ) (undeclared : ℕ) (floats other : Bool) → LetsFloatsIn text undeclared floats → LetsFloatsIn text undeclared other → floats ≡ other
one_floats reading text undeclared floats other (a, weights, held, is) (b, weights_too, held_too, is_too) = is ∙ (ap has_floats (reading.one_schema text a b held.0 held_too.0) ∙ sym is_too)

pub lets_by : (asked : Asked) (texts : AskedTexts) (inputs : Inputs) → HoldInputs asked texts inputs → LetsFloatsIn texts.schema asked.undeclared (has_floats (schema_data inputs.weighed.schema))
lets_by asked texts inputs held = (inputs.weighed.schema, inputs.weighed.weights, held.is_schema, refl)

-- the document of inputs, read with floats where the schema of others lets them in
pub read_as : (asked : Asked) (texts : AskedTexts) (inputs : Inputs) (floats : Bool) → OneReading → HoldInputs asked texts inputs → LetsFloatsIn texts.schema asked.undeclared floats → IsDocumentOf floats texts.document inputs.document
read_as asked texts inputs floats reading held lets =
    subst (λ may. IsDocumentOf may texts.document inputs.document)
    (one_floats reading texts.schema asked.undeclared (has_floats (schema_data inputs.weighed.schema)) floats (lets_by asked texts inputs held) lets) held.is_document

pub ask_alike : OneReading → (asked : Asked) (texts : AskedTexts) (a b : Inputs) → HoldInputs asked texts a → HoldInputs asked texts b → AskAlike (request_in asked a) (request_in asked b)
ask_alike reading asked texts a b held other =
    let floats = has_floats (schema_data a.weighed.schema) in
    let document_too : IsDocumentOf floats texts.document b.document = read_as asked texts b floats reading other (lets_by asked texts a held) in
    let schema : schema_data a.weighed.schema ≡ schema_data b.weighed.schema = reading.one_schema texts.schema a.weighed.schema b.weighed.schema held.is_schema.0 other.is_schema.0 in
    record {
      schema = schema;
      weights = held.is_schema.1.1 ∙ (ap (λ s. weights_of s asked.undeclared) schema ∙ sym other.is_schema.1.1);
      name = refl;
      given = one_given texts.variables (view a.given) (view b.given) held.is_given other.is_given;
      trees = reading.trees floats texts.document a.document b.document held.is_document document_too;
      offsets = reading.offsets floats texts.document a.document b.document held.is_document document_too;
    }

pub one_price : OneReading → ((r q : RequestData) (plan other : Plan) (bound cost : Cost) → AskAlike r q → IsAccepted r plan bound → IsAccepted q other cost → bound ≡ cost)
    → (asked : Asked) (texts : AskedTexts) (cost other : Cost) → HasBound asked texts cost → HasBound asked texts other → cost ≡ other
one_price reading one_bound asked texts cost other a b =
    one_bound (request_in asked a.0) (request_in asked b.0) a.2.0 b.2.0 cost other (ask_alike reading asked texts a.0 b.0 a.1 b.1) a.2.1 b.2.1

pub one_plan : OneReading → ((r q : RequestData) (p : Prepared r) (other : Prepared q) → AskAlike r q → plan_tree r p ≡ plan_tree q other)
    → (asked : Asked) (texts : AskedTexts) (plan other : PlanTree) → OfPlan asked texts (λ tree. tree ≡ plan) → OfPlan asked texts (λ tree. tree ≡ other) → plan ≡ other
one_plan reading one_tree asked texts plan other (a, held, (table, bound, accepted, is)) (b, held_too, (table_too, bound_too, accepted_too, is_too)) =
    sym is ∙ (one_tree (request_in asked a) (request_in asked b) accepted.is_planned.prepared accepted_too.is_planned.prepared (ask_alike reading asked texts a b held held_too) ∙ is_too)

-- ---- what is refused

no_schema : OneRefusal → (asked : Asked) (texts : AskedTexts) (refusal : SchemaRefusal) → HoldsSchema asked texts → IsUnchecked texts.schema refusal → ⊥
no_schema only asked texts refusal held refused = only.checked_or_not texts.schema held.0 refusal (weighed texts.schema asked.undeclared held.0 held.1 held.2) refused

no_json : (variables : Option (List ℕ)) (given : Data) → IsGiven variables given → IsUngiven variables NotJson → ⊥
no_json None given is not = not
no_json (Some text) given is not = none-some given (sym not ∙ is.0)

no_object : (variables : Option (List ℕ)) (given : Data) → IsGiven variables given → IsUngiven variables BadVariables → ⊥
no_object None given is not = not
no_object (Some text) given is not = differ (sym not.2 ∙ (ap (λ json. is_some (as_object json)) (same_Some not.0 given (sym not.1 ∙ is.0)) ∙ is.1))
  where
    differ : false ≡ true → ⊥
    differ same = cc

json_or_not : (variables : Option (List ℕ)) → IsUngiven variables NotJson → IsUngiven variables BadVariables → ⊥
json_or_not None unread other = unread
json_or_not (Some text) unread other = none-some other.0 (sym unread ∙ other.1)

-- the text of a document that was read isn't refused, nor in two ways
no_document : OneRefusal → (floats : Bool) (text : List ℕ) (document : Document) (refusal : Refusal) → IsDocumentOf floats text document → IsUnread floats text refusal → ⊥
no_document only floats text document (NoDocument fault) is not = only.read_or_not floats text (map definition_tree document.definitions.items) fault (only.documents floats text document is) not
no_document only floats text document (Pick fault) is not = not
no_document only floats text document (Rule fault) is not = not
no_document only floats text document (Variable fault) is not = not
no_document only floats text document (NoPlan fault) is not = not
no_document only floats text document (Bound fault) is not = not

one_unread : OneRefusal → (floats : Bool) (text : List ℕ) (refusal other : Refusal) → IsUnread floats text refusal → IsUnread floats text other → refusal ≡ other
one_unread only floats text (NoDocument f) (NoDocument g) a b = ap NoDocument (only.one_fault floats text f g a b)
one_unread only floats text (NoDocument f) (Pick g) a b = absurd b
one_unread only floats text (NoDocument f) (Rule g) a b = absurd b
one_unread only floats text (NoDocument f) (Variable g) a b = absurd b
one_unread only floats text (NoDocument f) (NoPlan g) a b = absurd b
one_unread only floats text (NoDocument f) (Bound g) a b = absurd b
one_unread only floats text (Pick f) other a b = absurd a
one_unread only floats text (Rule f) other a b = absurd a
one_unread only floats text (Variable f) other a b = absurd a
one_unread only floats text (NoPlan f) other a b = absurd a
one_unread only floats text (Bound f) other a b = absurd a

not_unread : OneRefusal → (asked : Asked) (texts : AskedTexts) (inputs : Inputs) (refusal : Refusal) → HoldInputs asked texts inputs → IsUnreadOf asked texts refusal → ⊥
not_unread only asked texts inputs refusal held (given, (floats, lets, unread)) = no_document only floats texts.document inputs.document refusal (read_as asked texts inputs floats only.reading held lets) unread

unread_once : OneRefusal → (asked : Asked) (texts : AskedTexts) (refusal other : Refusal) → IsUnreadOf asked texts refusal → IsUnreadOf asked texts other → refusal ≡ other
unread_once only asked texts refusal other (given, (floats, lets, unread)) (given_too, (floats_too, lets_too, unread_too)) =
    one_unread only floats texts.document refusal other unread
    (subst (λ may. IsUnread may texts.document other) (one_floats only.reading texts.schema asked.undeclared floats_too floats lets_too lets) unread_too)

-- what was looked at before the operation
schema_of : (asked : Asked) (texts : AskedTexts) (refusal : Refusal) → IsRefusalOf asked texts (NoOperation refusal) → HoldsSchema asked texts
schema_of asked texts refusal (inl (given, (floats, lets, unread))) = (lets.0, lets.1, lets.2)
schema_of asked texts refusal (inr refused) = (refused.0.weighed.schema, refused.0.weighed.weights, refused.1.is_schema)

given_of : (asked : Asked) (texts : AskedTexts) (refusal : Refusal) → IsRefusalOf asked texts (NoOperation refusal) → HoldsGiven texts
given_of asked texts refusal (inl unread) = unread.0
given_of asked texts refusal (inr refused) = (view refused.0.given, refused.1.is_given)

same_refusal : OneRefusal → (asked : Asked) (texts : AskedTexts) (f g : Refusal) → IsRefusalOf asked texts (NoOperation f) → IsRefusalOf asked texts (NoOperation g) → f ≡ g
same_refusal only asked texts f g (inl a) (inl b) = unread_once only asked texts f g a b
same_refusal only asked texts f g (inl a) (inr b) = absurd (not_unread only asked texts b.0 f b.1 a)
same_refusal only asked texts f g (inr a) (inl b) = absurd (not_unread only asked texts a.0 g a.1 b)
same_refusal only asked texts f g (inr a) (inr b) = only.one_refusal (request_in asked a.0) (request_in asked b.0) f g (ask_alike only.reading asked texts a.0 b.0 a.1 b.1) a.2 b.2

pub one_refusal : OneRefusal → (asked : Asked) (texts : AskedTexts) (refusal other : AskedRefusal) → IsRefusalOf asked texts refusal → IsRefusalOf asked texts other → refusal ≡ other
one_refusal only asked texts (NoSchema f) (NoSchema g) a b = ap NoSchema (only.one_check texts.schema f g a b)
one_refusal only asked texts (NoSchema f) NotJson a b = absurd (no_schema only asked texts f b.0 a)
one_refusal only asked texts (NoSchema f) BadVariables a b = absurd (no_schema only asked texts f b.0 a)
one_refusal only asked texts (NoSchema f) (NoOperation g) a b = absurd (no_schema only asked texts f (schema_of asked texts g b) a)
one_refusal only asked texts NotJson (NoSchema g) a b = absurd (no_schema only asked texts g a.0 b)
one_refusal only asked texts NotJson NotJson a b = refl
one_refusal only asked texts NotJson BadVariables a b = absurd (json_or_not texts.variables a.1 b.1)
one_refusal only asked texts NotJson (NoOperation g) a b = let given = given_of asked texts g b in absurd (no_json texts.variables given.0 given.1 a.1)
one_refusal only asked texts BadVariables (NoSchema g) a b = absurd (no_schema only asked texts g a.0 b)
one_refusal only asked texts BadVariables NotJson a b = absurd (json_or_not texts.variables b.1 a.1)
one_refusal only asked texts BadVariables BadVariables a b = refl
one_refusal only asked texts BadVariables (NoOperation g) a b = let given = given_of asked texts g b in absurd (no_object texts.variables given.0 given.1 a.1)
one_refusal only asked texts (NoOperation f) (NoSchema g) a b = absurd (no_schema only asked texts g (schema_of asked texts f a) b)
one_refusal only asked texts (NoOperation f) NotJson a b = let given = given_of asked texts f a in absurd (no_json texts.variables given.0 given.1 b.1)
one_refusal only asked texts (NoOperation f) BadVariables a b = let given = given_of asked texts f a in absurd (no_object texts.variables given.0 given.1 b.1)
one_refusal only asked texts (NoOperation f) (NoOperation g) a b = ap NoOperation (same_refusal only asked texts f g a b)

-- an operation with a price isn't refused
priced_or_not : OneRefusal → (asked : Asked) (texts : AskedTexts) (cost : Cost) (refusal : Refusal) → IsRefusalOf asked texts (NoOperation refusal) → HasBound asked texts cost → ⊥
priced_or_not only asked texts cost refusal (inl unread) price = not_unread only asked texts price.0 refusal price.1 unread
priced_or_not only asked texts cost refusal (inr refused) price =
    only.accepted_or_not (request_in asked price.0) (request_in asked refused.0) price.2.0 cost refusal (ask_alike only.reading asked texts price.0 refused.0 price.1 refused.1) price.2.1 refused.2

pub not_both : OneRefusal → (asked : Asked) (texts : AskedTexts) (cost : Cost) (refusal : AskedRefusal) → IsRefusalOf asked texts refusal → HasBound asked texts cost → ⊥
not_both only asked texts cost (NoSchema refusal) refused price = no_schema only asked texts refusal (price.0.weighed.schema, price.0.weighed.weights, price.1.is_schema) refused
not_both only asked texts cost NotJson refused price = no_json texts.variables (view price.0.given) price.1.is_given refused.1
not_both only asked texts cost BadVariables refused price = no_object texts.variables (view price.0.given) price.1.is_given refused.1
not_both only asked texts cost (NoOperation refusal) refused price = priced_or_not only asked texts cost refusal refused price
