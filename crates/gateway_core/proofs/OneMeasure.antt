-- A reply to the operation of a body is measured alike, or has one first fault, however often the body is read.
use Rattle.std.proofs.Common.{◌≡◌, ◌<◌, inl, inr, ◌∙◌, ℕ, List, Bool, Option, map, true, false, Some, refl, sym, ap, subst, arith}
use Rattle.std.specs.Prelude.{option_map}
use Rattle.std.proofs.lemmas.Bool.{cases_lt}
use Rattle.std.proofs.lemmas.Option.{none-some, same_Some}
use Rattle.response_model.specs.Plan.{Plan as PlanTree}
use Rattle.response_model.specs.Bound.{IsSound}
use Rattle.schema_model.specs.SchemaData.{type_at, has_floats}
use Rattle.schema_model.specs.SchemaViews.{schema_data}
use Rattle.document_reader.specs.declared.trees.Document.{Document}
use Rattle.document_reader.specs.Trees.{definition_tree}
use Rattle.document_reader.specs.Places.{operation_offset}
use Rattle.document_reader.specs.DocumentAnswers.{IsDocumentOf}
use Rattle.plan_model.specs.SelectedFields.{holds}
use Rattle.plan_table.specs.declared.table.Plan.{Plan}
use Rattle.plan_table.specs.TableBounds.{HoldsSound}
use Rattle.typename_rewrite.specs.AddedNames.{names_of_document, is_taken, alias_with, IsAlias}
use Rattle.request_bodies.specs.Bodies.{RequestData as Asked}
use Rattle.trusted_documents.specs.Listings.{Listing}
use Rattle.trusted_documents.specs.Requests.{IsRequestBy}
use Rattle.local_introspection.specs.PassedOn.{RequestData, Prepared, plan_tree, AskAlike}
use Rattle.response_meter.specs.declared.metered.Metered.{Metered}
use Rattle.response_meter.specs.declared.fault.MeterFault.{MeterFault}
use Rattle.response_meter.specs.FirstFault.{AreNamed}
use Rattle.response_meter.specs.Reply.{ReplyReads, IsResponseOrNone, first_reply_fault}
use Rattle.response_meter.specs.Metered.{TypesDiffer, name_in, first_fault_in, IsMetered, AreMeasuredAlike}
use Rattle.gateway_core.specs.declared.promise.Promise.{Promise}
use Rattle.gateway_core.specs.Rules.{Rules}
use Rattle.gateway_core.specs.Requests.{request_of, GoesUpstream, IsPromised, IsPromisedFor}
use Rattle.gateway_core.specs.Grants.{promise_of}
use Rattle.gateway_core.specs.PlanBounds.{IsMeasuredBy, IsFaultyBy}
use Rattle.gateway_core.specs.Measures.{IsMeasuredFor, IsFaultyFor, MeasuredIsAnswered}
use Rattle.gateway_core.proofs.OneAnswer.{OneReading, told, first_told, metered_alike, metered_once, metered_passes}

-- A body is read in one way, requests that ask the same have one plan, and a reply to it is read in one way.
pub record OneMeasure : Type 0 where
  pub one_asked : (list : Option Listing) (body : List ℕ) (asked other : Asked) → IsRequestBy list body asked → IsRequestBy list body other → asked ≡ other
  pub trees : (floats : Bool) (text : List ℕ) (document other : Document) → IsDocumentOf floats text document → IsDocumentOf floats text other → map definition_tree document.definitions.items ≡ map definition_tree other.definitions.items
  pub offsets : (floats : Bool) (text : List ℕ) (document other : Document) → IsDocumentOf floats text document → IsDocumentOf floats text other → map operation_offset document.definitions.items ≡ map operation_offset other.definitions.items
  pub one_plan : (r q : RequestData) (p : Prepared r) (other : Prepared q) → AskAlike r q → plan_tree r p ≡ plan_tree q other
  pub reading : OneReading

-- ---- one alias

taken : (names : List (List ℕ)) (alias other : List ℕ) (a : IsAlias names alias) (b : IsAlias names other) → a.underscores < b.underscores → ⊥
taken names alias other a b less = let e : false ≡ true = sym a.free ∙ (ap (is_taken names) a.is ∙ b.fewest a.underscores less) in cc e

one_alias : (names : List (List ℕ)) (alias other : List ℕ) → IsAlias names alias → IsAlias names other → alias ≡ other
one_alias names alias other a b = elim (cases_lt a.underscores b.underscores) [
  | inl less ↦ absurd (taken names alias other a b less)
  | inr most ↦ elim (cases_lt b.underscores a.underscores) [
    | inl less ↦ absurd (taken names other alias b a less)
    | inr least ↦ a.is ∙ (ap alias_with (omega (arith, most, least)) ∙ sym b.is)
  ]
]

-- ---- two promises for one body

-- what two promises have in common: the schema, the alias, and what is planned
record AreAlike (rules : Rules) (p q : Promise) (tree : PlanTree) : Type 0 where
  by_rules : schema_data p.plan.schema.now ≡ rules.schema
  schema : schema_data q.plan.schema.now ≡ schema_data p.plan.schema.now
  alias : q.alias ≡ p.alias
  sound : HoldsSound p.plan tree
  sound_too : HoldsSound q.plan tree
  named : AreNamed (name_in p.plan) tree

-- it is promised for a request by these rules
abbrev IsPromisedBy : Rules → Promise → RequestData → Type 0
IsPromisedBy rules p r = IsPromised r p × (r.schema ≡ rules.schema)

sound_of : (r : RequestData) (p : Promise) (promised : IsPromised r p) → HoldsSound p.plan (plan_tree r promised.is_accepted.is_planned.prepared)
sound_of r p promised =
    let tree = plan_tree r promised.is_accepted.is_planned.prepared in
    (promised.is_accepted.is_planned.rows, subst (λ s. IsSound (holds s) tree) (sym promised.of_schema) promised.is_accepted.is_sound)

alike_of : OneMeasure → (rules : Rules) → TypesDiffer rules.schema → (r s : RequestData) (p q : Promise) → AskAlike r s → IsPromisedBy rules p r → IsPromised s q
    → (tree : PlanTree) × AreAlike rules p q tree
alike_of laws rules differ r s p q same of_p of_q =
    let a = of_p.0 in
    let planned = a.is_accepted.is_planned in
    let planned_too = of_q.is_accepted.is_planned in
    let tree = plan_tree r planned.prepared in (
      tree,
      record {
        by_rules = a.of_schema ∙ of_p.1;
        schema = of_q.of_schema ∙ (sym same.schema ∙ sym a.of_schema);
        alias = sym (one_alias (names_of_document (map definition_tree s.document)) p.alias q.alias
            (subst (λ trees. IsAlias (names_of_document trees) p.alias) same.trees a.is_free) of_q.is_free);
        sound = sound_of r p a;
        sound_too = subst (HoldsSound q.plan) (sym (laws.one_plan r s planned.prepared planned_too.prepared same)) (sound_of s q of_q);
        named = laws.reading.named p.plan tree (subst TypesDiffer (sym (a.of_schema ∙ of_p.1)) differ) planned.rows;
      },
    )

abbrev AsksFor : Rules → (RequestData → Type 0) → Asked → Type 0
AsksFor rules P asked = (document : Document) × IsDocumentOf (has_floats rules.schema) asked.query document × P (request_of rules asked document)

both : OneMeasure → (rules : Rules) → TypesDiffer rules.schema → (body : List ℕ) (p q : Promise) → IsPromisedFor rules body p → IsPromisedFor rules body q
    → (tree : PlanTree) × AreAlike rules p q tree
both laws rules differ body p q (asked, is, (document, read, (goes, of_p))) (asked_too, is_too, asks) =
    let moved : AsksFor rules (λ r. GoesUpstream rules r × IsPromised r q) asked = subst (AsksFor rules (λ r. GoesUpstream rules r × IsPromised r q)) (laws.one_asked rules.trusted body asked_too asked is_too is) asks in
    alike_of laws rules differ (request_of rules asked document) (request_of rules asked moved.0) p q record {
      schema = refl;
      weights = refl;
      name = refl;
      given = refl;
      trees = laws.trees (has_floats rules.schema) asked.query document moved.0 read moved.1;
      offsets = laws.offsets (has_floats rules.schema) asked.query document moved.0 read moved.1;
    } (of_p, refl) moved.2.1

-- ---- a reply by either of them

by_schema : (p q : Plan) (alias : List ℕ) (tree : PlanTree) (reply : List ℕ) (metered : Metered) → schema_data q.schema.now ≡ schema_data p.schema.now
    → IsMetered q alias tree reply metered → IsMetered p alias tree reply metered
by_schema p q alias tree reply metered same m = record {
  content = m.content;
  errors = m.errors;
  reads = subst (λ s. ReplyReads (λ T. (type_at s T).name) alias tree reply m.content m.errors) same m.reads;
  is_response = subst (λ s. IsResponseOrNone (holds s) tree m.content) same m.is_response;
  types_cost = m.types_cost;
  fields_cost = m.fields_cost;
  text = m.text;
}

moved : (rules : Rules) (p q : Promise) (tree : PlanTree) (reply : List ℕ) (metered : Metered) → AreAlike rules p q tree → IsMeasuredBy q.plan q.alias reply metered
    → IsMetered p.plan p.alias tree reply metered
moved rules p q tree reply metered same measured =
    by_schema p.plan q.plan p.alias tree reply metered same.schema
    (subst (λ alias. IsMetered q.plan alias tree reply metered) same.alias (measured tree same.sound_too))

fault_moved : (rules : Rules) (p q : Promise) (tree : PlanTree) (reply : List ℕ) → AreAlike rules p q tree → first_fault_in q.plan q.alias tree reply ≡ first_fault_in p.plan p.alias tree reply
fault_moved rules p q tree reply same =
    ap (λ alias. first_fault_in q.plan alias tree reply) same.alias
    ∙ ap (λ s. first_reply_fault (holds s) (λ T. (type_at s T).name) p.alias tree reply) same.schema

-- the first fault, as it is told
fault_of : (p : Promise) (tree : PlanTree) (reply : List ℕ) (fault : MeterFault) → HoldsSound p.plan tree → IsFaultyBy p.plan p.alias reply fault
    → option_map told (first_fault_in p.plan p.alias tree reply) ≡ Some fault
fault_of p tree reply fault sound has = first_told fault (first_fault_in p.plan p.alias tree reply) has.0 (has.1 tree sound)

module _ (laws : OneMeasure) (rules : Rules) (differ : TypesDiffer rules.schema) (body reply : List ℕ) where
  pub measured_alike : (a b : Metered) → IsMeasuredFor rules body reply a → IsMeasuredFor rules body reply b → AreMeasuredAlike reply a b
  measured_alike a b (p, of_p, measured) (q, of_q, measured_too) =
      let same = both laws rules differ body p q of_p of_q in
      metered_alike laws.reading p.plan p.alias same.0 reply a b same.1.named (measured same.0 same.1.sound) (moved rules p q same.0 reply b same.1 measured_too)

  pub measured_once : has_floats rules.schema ≡ false → (a b : Metered) → IsMeasuredFor rules body reply a → IsMeasuredFor rules body reply b → a ≡ b
  measured_once none a b (p, of_p, measured) (q, of_q, measured_too) =
      let same = both laws rules differ body p q of_p of_q in
      metered_once laws.reading p.plan p.alias same.0 reply a b same.1.named (measured same.0 same.1.sound) (moved rules p q same.0 reply b same.1 measured_too)
      (ap has_floats same.1.by_rules ∙ none)

  pub faulty_once : (a b : MeterFault) → IsFaultyFor rules body reply a → IsFaultyFor rules body reply b → a ≡ b
  faulty_once a b (p, of_p, faulty) (q, of_q, faulty_too) =
      let same = both laws rules differ body p q of_p of_q in
      same_Some a b
      (sym (fault_of p same.0 reply a same.1.sound faulty)
      ∙ (ap (option_map told) (sym (fault_moved rules p q same.0 reply same.1)) ∙ fault_of q same.0 reply b same.1.sound_too faulty_too))

  pub measured_or_faulty : (a : Metered) (b : MeterFault) → IsMeasuredFor rules body reply a → IsFaultyFor rules body reply b → ⊥
  measured_or_faulty a b (p, of_p, measured) (q, of_q, faulty) =
      let same = both laws rules differ body p q of_p of_q in
      let passes = metered_passes laws.reading p.plan p.alias same.0 reply a same.1.named (measured same.0 same.1.sound) in
      none-some b (sym (ap (option_map told) (fault_moved rules p q same.0 reply same.1 ∙ passes)) ∙ fault_of q same.0 reply b same.1.sound_too faulty)

-- what is granted for the body is answered as it was measured
pub answered : OneMeasure → (rules : Rules) → TypesDiffer rules.schema → MeasuredIsAnswered rules
answered laws rules differ key body client made g reply metered f granted measured (inr starved) = inr starved
answered laws rules differ key body client made g reply metered f granted measured (inl (inl (m, of_m, is))) =
    let own : IsMeasuredFor rules body reply.body.items m = (promise_of g, granted.promised, of_m) in
    inl (m, own, measured_alike laws rules differ body reply.body.items metered m measured own, is)
answered laws rules differ key body client made g reply metered f granted measured (inl (inr (fault, faulty, is))) =
    let own : IsFaultyFor rules body reply.body.items fault = (promise_of g, granted.promised, faulty) in
    absurd (measured_or_faulty laws rules differ body reply.body.items metered fault measured own)
