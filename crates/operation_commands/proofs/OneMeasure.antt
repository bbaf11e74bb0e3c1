-- A reply to the operation of texts is measured in one way, or has one fault.
use Rattle.std.proofs.Common.{◌≡◌, ◌<◌, inl, inr, ◌∙◌, ℕ, List, map, Bool, true, false, Option, None, Some, refl, sym, ap, subst, arith}
use Rattle.std.proofs.lemmas.Bool.{cases_lt}
use Rattle.std.proofs.lemmas.Option.{none-some}
use Rattle.cost_num.specs.declared.Cost.{Cost}
use Rattle.cost_num.proofs.Costs.{cost_eq}
use Rattle.serde_json.specs.Data.{Data}
use Rattle.serde_json.specs.Read.{read as read_text}
use Rattle.serde_json.specs.View.{view}
use Rattle.serde_json.specs.Written.{has_float, compact_text}
use Rattle.response_model.specs.Plan.{Plan as PlanTree}
use Rattle.response_model.specs.Cost.{types, fields}
use Rattle.response_model.specs.ResponseText.{response_text}
use Rattle.response_model.specs.AnswerTexts.{IsAnswerText}
use Rattle.schema_model.specs.declared.schema.Schema.{Schema}
use Rattle.schema_model.specs.SchemaData.{type_at, has_floats}
use Rattle.schema_model.specs.SchemaViews.{schema_data}
use Rattle.document_reader.specs.Trees.{definition_tree}
use Rattle.plan_model.specs.SelectedFields.{holds}
use Rattle.plan_table.specs.declared.table.Plan.{Plan}
use Rattle.plan_table.specs.Tables.{HasRows, setting_in}
use Rattle.typename_rewrite.specs.AddedNames.{names_of_document, is_taken, alias_with, IsAlias}
use Rattle.plan_table.specs.TableBounds.{holds_in}
use Rattle.command_words.specs.declared.command.Asked.{Asked}
use Rattle.acceptance.specs.Requests.{RequestData, Prepared, plan_tree}
use Rattle.acceptance.specs.Bounds.{IsAccepted}
use Rattle.acceptance.specs.Forwarding.{IsFreeIn, sent_body, IsGivenAsRead, IsSentText}
use Rattle.acceptance.specs.Keys.{HasEachKeyOnce}
use Rattle.acceptance.specs.AskAlike.{AskAlike}
use Rattle.response_meter.specs.declared.metered.Metered.{Metered}
use Rattle.response_meter.specs.declared.fault.MeterFault.{MeterFault}
use Rattle.response_meter.specs.declared.fault.MeterFault.TheVariants.{NotResponse, SizeBroken, Memory as MeterMemory}
use Rattle.response_meter.specs.Faults.{Fault, not_response, size_broken, Tells}
use Rattle.response_meter.specs.FirstFault.{AreNamed}
use Rattle.response_meter.specs.Reply.{ReplyReads, IsResponseOrNone, ReadsOnce, PassesWhereReadable, first_reply_fault, reply_cost}
use Rattle.response_meter.specs.Metered.{name_in, TypesDiffer, first_fault_in, IsMetered, HasOneText, AreMeasuredAlike}
use Rattle.operation_commands.specs.declared.asked.AskedTexts.{AskedTexts}
use Rattle.operation_commands.specs.declared.asking.Inputs.{Inputs}
use Rattle.command_outcomes.specs.Check.{HoldsChecked}
use Rattle.operation_commands.specs.Asked.{IsGiven, HoldInputs, request_in, LetsFloatsIn}
use Rattle.operation_commands.specs.Price.{HasBound}
use Rattle.operation_commands.specs.Forward.{IsSent, AreGivenAsRead}
use Rattle.operation_commands.specs.Meter.{OfAccepted, HasMeasure, HasReplyFault}
use Rattle.operation_commands.proofs.OnePrice.{OneReading, one_floats, lets_by, read_as, ask_alike}

-- ---- what is accepted has a price

pub priced : (asked : Asked) (texts : AskedTexts) (P : Plan → List ℕ → PlanTree → Type 0) → OfAccepted asked texts P → (cost : Cost) × HasBound asked texts cost
priced asked texts P (inputs, held, (plan, bound, accepted, of_schema, other)) = (bound, (inputs, held, (plan, accepted)))

pub sent_priced : (asked : Asked) (texts : AskedTexts) (text : List ℕ) → IsSent asked texts text → (cost : Cost) × HasBound asked texts cost
sent_priced asked texts text (inputs, held, (plan, bound, accepted, other)) = (bound, (inputs, held, (plan, accepted)))

-- ---- one alias

differ : false ≡ true → ⊥
differ same = cc

taken : (names : List (List ℕ)) (alias other : List ℕ) (a : IsAlias names alias) (b : IsAlias names other) → a.underscores < b.underscores → ⊥
taken names alias other a b less = differ (sym a.free ∙ (ap (is_taken names) a.is ∙ b.fewest a.underscores less))

one_alias : (names : List (List ℕ)) (alias other : List ℕ) → IsAlias names alias → IsAlias names other → alias ≡ other
one_alias names alias other a b = elim (cases_lt a.underscores b.underscores) [
  | inl less ↦ absurd (taken names alias other a b less)
  | inr most ↦ elim (cases_lt b.underscores a.underscores) [
    | inl less ↦ absurd (taken names other alias b a less)
    | inr least ↦ a.is ∙ (ap alias_with (omega (arith, most, least)) ∙ sym b.is)
  ]
]

-- ---- two readings of the texts

-- what two accepted readings have in common
record IsSame (p : Plan) (a : List ℕ) (t : PlanTree) (q : Plan) (b : List ℕ) (u : PlanTree) : Type 0 where
  schema : schema_data q.schema.now ≡ schema_data p.schema.now
  alias : b ≡ a
  tree : u ≡ t
  named : AreNamed (name_in p) t

pub record OneReply : Type 0 where
  pub reading : OneReading
  pub one_tree : (r q : RequestData) (p : Prepared r) (other : Prepared q) → AskAlike r q → plan_tree r p ≡ plan_tree q other
  pub types_differ : (bytes : List ℕ) (schema : Schema) → HoldsChecked bytes schema → TypesDiffer (schema_data schema)
  pub named : (table : Plan) (tree : PlanTree) → TypesDiffer (setting_in table).schema → HasRows table tree → AreNamed (name_in table) tree
  pub one_reply : (name : ℕ → List ℕ) (alias : List ℕ) (plan : PlanTree) (bytes : List ℕ) → AreNamed name plan → ReadsOnce name alias plan bytes
  pub plain : (table : Plan) (alias : List ℕ) (tree : PlanTree) (bytes : List ℕ) (metered : Metered) → has_floats (setting_in table).schema ≡ false → AreNamed (name_in table) tree → HasOneText table alias tree bytes metered
  pub passes : (holds : ℕ → Data → Bool) (name : ℕ → List ℕ) (alias : List ℕ) (plan : PlanTree) (bytes : List ℕ) → AreNamed name plan → PassesWhereReadable holds name alias plan bytes

named_of : OneReply → (asked : Asked) (texts : AskedTexts) (inputs : Inputs) (plan : Plan) (bound : Cost) → HoldInputs asked texts inputs → (accepted : IsAccepted (request_in asked inputs) plan bound) → plan.schema.now ≡ inputs.weighed.schema
    → AreNamed (name_in plan) (plan_tree (request_in asked inputs) accepted.is_planned.prepared)
named_of laws asked texts inputs plan bound held accepted of_schema =
    laws.named plan (plan_tree (request_in asked inputs) accepted.is_planned.prepared) (subst (λ s. TypesDiffer (schema_data s)) (sym of_schema) (laws.types_differ texts.schema inputs.weighed.schema held.is_schema.0)) accepted.is_planned.rows

-- both are sent under one alias
one_free : OneReply → (asked : Asked) (texts : AskedTexts) (a b : Inputs) → HoldInputs asked texts a → HoldInputs asked texts b → (alias other : List ℕ) → IsFreeIn (request_in asked a) alias → IsFreeIn (request_in asked b) other → alias ≡ other
one_free laws asked texts a b held held_too alias other free free_too =
    one_alias (names_of_document (map definition_tree b.document.definitions.items)) alias other
    (subst (λ trees. IsAlias (names_of_document trees) alias)
    (laws.reading.trees (has_floats (schema_data a.weighed.schema)) texts.document a.document b.document held.is_document
    (read_as asked texts b (has_floats (schema_data a.weighed.schema)) laws.reading held_too (lets_by asked texts a held))) free) free_too

-- Whatever holds of both holds of one plan, with one alias and one tree.
same_of : OneReply → (asked : Asked) (texts : AskedTexts) (a b : Inputs) (p q : Plan) (m n : Cost) (alias other : List ℕ) → HoldInputs asked texts a → HoldInputs asked texts b
    → (accepted : IsAccepted (request_in asked a) p m) (accepted_too : IsAccepted (request_in asked b) q n) → p.schema.now ≡ a.weighed.schema → q.schema.now ≡ b.weighed.schema
    → IsFreeIn (request_in asked a) alias → IsFreeIn (request_in asked b) other
    → IsSame p alias (plan_tree (request_in asked a) accepted.is_planned.prepared) q other (plan_tree (request_in asked b) accepted_too.is_planned.prepared)
same_of laws asked texts a b p q m n alias other held held_too accepted accepted_too of_schema of_schema_too free free_too = record {
  schema = ap schema_data of_schema_too ∙ (laws.reading.one_schema texts.schema b.weighed.schema a.weighed.schema held_too.is_schema.0 held.is_schema.0 ∙ sym (ap schema_data of_schema));
  alias = sym (one_free laws asked texts a b held held_too alias other free free_too);
  tree = laws.one_tree (request_in asked b) (request_in asked a) accepted_too.is_planned.prepared accepted.is_planned.prepared (ask_alike laws.reading asked texts b a held_too held);
  named = named_of laws asked texts a p m held accepted of_schema;
}

-- ---- of one plan

moved : (p q : Plan) (alias : List ℕ) (tree : PlanTree) (bytes : List ℕ) (metered : Metered) → schema_data q.schema.now ≡ schema_data p.schema.now → IsMetered q alias tree bytes metered → IsMetered p alias tree bytes metered
moved p q alias tree bytes metered same m = record {
  content = m.content;
  errors = m.errors;
  reads = subst (λ s. ReplyReads (λ T. (type_at s T).name) alias tree bytes m.content m.errors) same m.reads;
  is_response = subst (λ s. IsResponseOrNone (holds s) tree m.content) same m.is_response;
  types_cost = m.types_cost;
  fields_cost = m.fields_cost;
  text = m.text;
}

measured_alike : (p q : Plan) (alias other : List ℕ) (tree tree_too : PlanTree) (bytes : List ℕ) (metered : Metered) → IsSame p alias tree q other tree_too → IsMetered q other tree_too bytes metered → IsMetered p alias tree bytes metered
measured_alike p q alias other tree tree_too bytes metered same m =
    moved p q alias tree bytes metered same.schema (subst (λ t. IsMetered q alias t bytes metered) same.tree (subst (λ a. IsMetered q a tree_too bytes metered) same.alias m))

fault_alike : (p q : Plan) (alias other : List ℕ) (tree tree_too : PlanTree) (bytes : List ℕ) → IsSame p alias tree q other tree_too → first_fault_in q other tree_too bytes ≡ first_fault_in p alias tree bytes
fault_alike p q alias other tree tree_too bytes same =
    ap (λ a. first_fault_in q a tree_too bytes) same.alias
    ∙ (ap (λ t. first_fault_in q alias t bytes) same.tree ∙ ap (λ s. first_reply_fault (holds s) (λ T. (type_at s T).name) alias tree bytes) same.schema)

-- a measure by its parts
abbrev made : Cost → List ℕ → Metered
made cost text = record { cost = cost; text = text }

module _ (laws : OneReply) (p : Plan) (alias : List ℕ) (tree : PlanTree) (bytes : List ℕ) (m n : Metered) (named : AreNamed (name_in p) tree) (a : IsMetered p alias tree bytes m) (b : IsMetered p alias tree bytes n) where
  abbrev read_once : (a.content ≡ b.content) × (a.errors ≡ b.errors)
  read_once = laws.one_reply (name_in p) alias tree bytes named a.content b.content a.errors b.errors a.reads b.reads

  cost_once : m.cost ≡ n.cost
  cost_once =
      cost_eq m.cost n.cost
      (a.types_cost ∙ (ap (reply_cost types tree) read_once.0 ∙ sym b.types_cost))
      (a.fields_cost ∙ (ap (reply_cost fields tree) read_once.0 ∙ sym b.fields_cost))

  metered_alike : AreMeasuredAlike bytes m n
  metered_alike = record {
    cost = cost_once;
    texts = record {
      name = name_in p;
      alias = alias;
      plan = tree;
      content = a.content;
      errors = a.errors;
      reads = a.reads;
      is_text = a.text;
      is_other = subst (λ content. IsAnswerText content a.errors n.text) (sym read_once.0) (subst (λ errors. IsAnswerText b.content errors n.text) (sym read_once.1) b.text);
    };
  }

  metered_once : has_floats (setting_in p).schema ≡ false → m ≡ n
  metered_once none =
      ap (λ cost. made cost m.text) cost_once
      ∙ ap (made n.cost)
      (laws.plain p alias tree bytes m none named a
      ∙ (ap (λ content. response_text content a.errors) read_once.0 ∙ (ap (response_text b.content) read_once.1 ∙ sym (laws.plain p alias tree bytes n none named b))))

-- the fault that an answer tells of the first test that doesn't pass
abbrev told_by : Option Fault → MeterFault
told_by None = MeterMemory
told_by (Some (not_response path why)) = NotResponse path why
told_by (Some (size_broken path size length)) = SizeBroken path size length

told_first : (fault : MeterFault) (first : Option Fault) → Tells fault first → (fault ≡ MeterMemory → ⊥) → fault ≡ told_by first
told_first (NotResponse path why) first told other = sym (ap told_by told)
told_first (SizeBroken path size length) first told other = sym (ap told_by told)
told_first MeterMemory first told other = absurd (other refl)

told_some : (fault : MeterFault) → Tells fault None → (fault ≡ MeterMemory → ⊥) → ⊥
told_some (NotResponse path why) told other = none-some (not_response path why) told
told_some (SizeBroken path size length) told other = none-some (size_broken path size length) told
told_some MeterMemory told other = other refl

-- a reply that is measured has no fault
no_fault : OneReply → (p : Plan) (alias : List ℕ) (tree : PlanTree) (bytes : List ℕ) (metered : Metered) → AreNamed (name_in p) tree → IsMetered p alias tree bytes metered → first_fault_in p alias tree bytes ≡ None
no_fault laws p alias tree bytes metered named m = (laws.passes (holds_in p) (name_in p) alias tree bytes named).1 (m.content, m.errors, m.reads, m.is_response)

-- ---- of the texts

-- where the texts let no floats in, the schema of what they hold lets none in
none_in : OneReply → (asked : Asked) (texts : AskedTexts) (inputs : Inputs) → LetsFloatsIn texts.schema asked.undeclared false → HoldInputs asked texts inputs → has_floats (schema_data inputs.weighed.schema) ≡ false
none_in laws asked texts inputs lets held = one_floats laws.reading texts.schema asked.undeclared (has_floats (schema_data inputs.weighed.schema)) false (lets_by asked texts inputs held) lets

pub alike_measure : OneReply → (asked : Asked) (texts : AskedTexts) (reply : List ℕ) (metered other : Metered) → HasMeasure asked texts reply metered → HasMeasure asked texts reply other → AreMeasuredAlike reply metered other
alike_measure laws asked texts reply metered other (a, held, (p, m, accepted, of_schema, (alias, free, measured))) (b, held_too, (q, n, accepted_too, of_schema_too, (alias_too, free_too, measured_too))) =
    let same = same_of laws asked texts a b p q m n alias alias_too held held_too accepted accepted_too of_schema of_schema_too free free_too in
    metered_alike laws p alias (plan_tree (request_in asked a) accepted.is_planned.prepared) reply metered other same.named measured
    (measured_alike p q alias alias_too (plan_tree (request_in asked a) accepted.is_planned.prepared) (plan_tree (request_in asked b) accepted_too.is_planned.prepared) reply other same measured_too)

pub one_measure : OneReply → (asked : Asked) (texts : AskedTexts) (reply : List ℕ) (metered other : Metered) → LetsFloatsIn texts.schema asked.undeclared false → HasMeasure asked texts reply metered → HasMeasure asked texts reply other → metered ≡ other
one_measure laws asked texts reply metered other lets (a, held, (p, m, accepted, of_schema, (alias, free, measured))) (b, held_too, (q, n, accepted_too, of_schema_too, (alias_too, free_too, measured_too))) =
    let same = same_of laws asked texts a b p q m n alias alias_too held held_too accepted accepted_too of_schema of_schema_too free free_too in
    metered_once laws p alias (plan_tree (request_in asked a) accepted.is_planned.prepared) reply metered other same.named measured
    (measured_alike p q alias alias_too (plan_tree (request_in asked a) accepted.is_planned.prepared) (plan_tree (request_in asked b) accepted_too.is_planned.prepared) reply other same measured_too)
    (ap (λ s. has_floats (schema_data s)) of_schema ∙ none_in laws asked texts a lets held)

pub one_fault : OneReply → (asked : Asked) (texts : AskedTexts) (reply : List ℕ) (fault other : MeterFault) → HasReplyFault asked texts reply fault → HasReplyFault asked texts reply other → fault ≡ other
one_fault laws asked texts reply fault other (a, held, (p, m, accepted, of_schema, (alias, free, first))) (b, held_too, (q, n, accepted_too, of_schema_too, (alias_too, free_too, first_too))) =
    let same = same_of laws asked texts a b p q m n alias alias_too held held_too accepted accepted_too of_schema of_schema_too free free_too in
    let tree = plan_tree (request_in asked a) accepted.is_planned.prepared in
    let tree_too = plan_tree (request_in asked b) accepted_too.is_planned.prepared in
    told_first fault (first_fault_in p alias tree reply) first.0 first.1
    ∙ (ap told_by (sym (fault_alike p q alias alias_too tree tree_too reply same)) ∙ sym (told_first other (first_fault_in q alias_too tree_too reply) first_too.0 first_too.1))

pub measured_or_faulty : OneReply → (asked : Asked) (texts : AskedTexts) (reply : List ℕ) (metered : Metered) (fault : MeterFault) → HasMeasure asked texts reply metered → HasReplyFault asked texts reply fault → ⊥
measured_or_faulty laws asked texts reply metered fault (a, held, (p, m, accepted, of_schema, (alias, free, measured))) (b, held_too, (q, n, accepted_too, of_schema_too, (alias_too, free_too, first))) =
    let same = same_of laws asked texts a b p q m n alias alias_too held held_too accepted accepted_too of_schema of_schema_too free free_too in
    let tree = plan_tree (request_in asked a) accepted.is_planned.prepared in
    let tree_too = plan_tree (request_in asked b) accepted_too.is_planned.prepared in
    told_some fault (subst (Tells fault) (fault_alike p q alias alias_too tree tree_too reply same ∙ no_fault laws p alias tree reply metered same.named measured) first.0) first.1

-- ---- what is sent

pub record OneSent : Type 0 where
  pub reply : OneReply
  pub one_body : (r q : RequestData) (p : Prepared r) (other : Prepared q) (alias : List ℕ) → AskAlike r q → sent_body r p alias ≡ sent_body q other alias
  pub once : (text : List ℕ) (json : Data) → read_text text ≡ Some json → HasEachKeyOnce json
  pub no_float : (r : RequestData) (p : Prepared r) (alias : List ℕ) → has_floats r.schema ≡ false → HasEachKeyOnce r.given → has_float (sent_body r p alias) ≡ false
  pub read : (r : RequestData) (p : Prepared r) (alias text : List ℕ) → IsGivenAsRead r.given → IsSentText r p alias text → read_text text ≡ Some (sent_body r p alias)

once_given : OneSent → (variables : Option (List ℕ)) (json : Data) → IsGiven variables json → HasEachKeyOnce json
once_given laws None json is = subst HasEachKeyOnce (sym is) tt
once_given laws (Some text) json is = laws.once text json is.0

-- one body is sent
body_once : OneSent → (asked : Asked) (texts : AskedTexts) (a b : Inputs) (held : HoldInputs asked texts a) (held_too : HoldInputs asked texts b) (p : Prepared (request_in asked a)) (q : Prepared (request_in asked b)) (alias other : List ℕ)
    → IsFreeIn (request_in asked a) alias → IsFreeIn (request_in asked b) other → sent_body (request_in asked a) p alias ≡ sent_body (request_in asked b) q other
body_once laws asked texts a b held held_too p q alias other free free_too =
    ap (sent_body (request_in asked a) p) (one_free laws.reply asked texts a b held held_too alias other free free_too)
    ∙ laws.one_body (request_in asked a) (request_in asked b) p q other (ask_alike laws.reply.reading asked texts a b held held_too)

-- where the texts let no floats in, the body holds none
floatless : OneSent → (asked : Asked) (texts : AskedTexts) (inputs : Inputs) → LetsFloatsIn texts.schema asked.undeclared false → HoldInputs asked texts inputs → (p : Prepared (request_in asked inputs)) (alias : List ℕ)
    → has_float (sent_body (request_in asked inputs) p alias) ≡ false
floatless laws asked texts inputs lets held p alias =
    laws.no_float (request_in asked inputs) p alias (none_in laws.reply asked texts inputs lets held) (once_given laws texts.variables (view inputs.given) held.is_given)

pub one_sent : OneSent → (asked : Asked) (texts : AskedTexts) (text other : List ℕ) → LetsFloatsIn texts.schema asked.undeclared false → IsSent asked texts text → IsSent asked texts other → text ≡ other
one_sent laws asked texts text other lets (a, held, (p, m, accepted, (alias, free, is))) (b, held_too, (q, n, accepted_too, (alias_too, free_too, is_too))) =
    is.plain (floatless laws asked texts a lets held accepted.is_planned.prepared alias)
    ∙ (ap compact_text (body_once laws asked texts a b held held_too accepted.is_planned.prepared accepted_too.is_planned.prepared alias alias_too free free_too)
    ∙ sym (is_too.plain (floatless laws asked texts b lets held_too accepted_too.is_planned.prepared alias_too)))

pub alike_sent : OneSent → (asked : Asked) (texts : AskedTexts) (text other : List ℕ) → AreGivenAsRead asked texts → IsSent asked texts text → IsSent asked texts other → read_text text ≡ read_text other
alike_sent laws asked texts text other given (a, held, (p, m, accepted, (alias, free, is))) (b, held_too, (q, n, accepted_too, (alias_too, free_too, is_too))) =
    laws.read (request_in asked a) accepted.is_planned.prepared alias text (given a held) is
    ∙ (ap Some (body_once laws asked texts a b held held_too accepted.is_planned.prepared accepted_too.is_planned.prepared alias alias_too free free_too)
    ∙ sym (laws.read (request_in asked b) accepted_too.is_planned.prepared alias_too other (given b held_too) is_too))
