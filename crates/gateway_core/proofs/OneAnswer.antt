-- A reply to what is granted has one answer: it is measured in one way, or has one first fault.
use Rattle.std.proofs.Common.{◌≡◌, ◌≢◌, inl, inr, ◌∙◌, ℕ, List, Bool, false, Option, Some, None, refl, sym, ap, subst}
use Rattle.std.specs.Prelude.{option_map}
use Rattle.std.proofs.lemmas.Option.{none-some, same_Some}
use Rattle.cost_num.specs.declared.Cost.{Cost}
use Rattle.cost_num.proofs.Costs.{cost_eq}
use Rattle.serde_json.specs.Data.{Data}
use Rattle.upstream_link.specs.declared.reply.UpstreamReply.{UpstreamReply}
use Rattle.upstream_link.specs.declared.fault.LinkFault.{LinkFault}
use Rattle.upstream_link.specs.declared.fault.LinkFault.TheVariants.{Down, Failed, BadReplyHead, Coded, TooLarge, Truncated, BadChunk, Memory}
use Rattle.response_model.specs.Plan.{Plan as PlanTree}
use Rattle.response_model.specs.Cost.{types, fields}
use Rattle.response_model.specs.ResponseText.{response_text}
use Rattle.response_model.specs.Bound.{IsSound}
use Rattle.plan_model.specs.SelectedFields.{holds}
use Rattle.plan_table.specs.declared.table.Plan.{Plan}
use Rattle.plan_table.specs.Tables.{HasRows, setting_in}
use Rattle.plan_table.specs.TableBounds.{holds_in, HoldsSound}
use Rattle.local_introspection.specs.PassedOn.{plan_tree}
use Rattle.response_meter.specs.declared.metered.Metered.{Metered}
use Rattle.response_meter.specs.declared.fault.MeterFault.{MeterFault}
use Rattle.response_meter.specs.declared.fault.MeterFault.TheVariants.{NotResponse, SizeBroken, Memory as MeterMemory}
use Rattle.response_meter.specs.Faults.{Fault, not_response, size_broken, Tells}
use Rattle.response_meter.specs.FirstFault.{AreNamed}
use Rattle.response_meter.specs.Reply.{ReadsOnce, PassesWhereReadable, reply_cost}
use Rattle.response_model.specs.AnswerTexts.{IsAnswerText}
use Rattle.schema_model.specs.SchemaData.{has_floats}
use Rattle.response_meter.specs.Metered.{TypesDiffer, name_in, first_fault_in, IsMetered, HasOneText, AreMeasuredAlike}
use Rattle.gateway_core.specs.declared.grant.Grant.{Grant}
use Rattle.gateway_core.specs.declared.finishing.Finished.{Finished}
use Rattle.gateway_core.specs.declared.finishing.Outcome.{Outcome}
use Rattle.gateway_core.specs.declared.finishing.Outcome.TheVariants.{Reply, Fault as NoReply, NoMemory}
use Rattle.gateway_core.specs.Rules.{Rules}
use Rattle.gateway_core.specs.Requests.{request_of, IsPromisedFor}
use Rattle.gateway_core.specs.Grants.{promise_of}
use Rattle.gateway_core.specs.Messages.{message_body, reply_text}
use Rattle.gateway_core.specs.PlanBounds.{IsMeasuredBy}
use Rattle.gateway_core.specs.Finishes.{finished_as, HasReplyFault, IsReplied, IsUnanswered, IsConcluded, IsGrantedBy, AreBodiesAlike, AreAnsweredAlike}

-- A reply passes every test exactly where it is a response, and it is read in one way.
pub record OneReading : Type 0 where
  pub passes : (holds : ℕ → Data → Bool) (name : ℕ → List ℕ) (alias : List ℕ) (plan : PlanTree) (bytes : List ℕ) → AreNamed name plan → PassesWhereReadable holds name alias plan bytes
  pub once : (name : ℕ → List ℕ) (alias : List ℕ) (plan : PlanTree) (bytes : List ℕ) → AreNamed name plan → ReadsOnce name alias plan bytes
  pub named : (table : Plan) (tree : PlanTree) → TypesDiffer (setting_in table).schema → HasRows table tree → AreNamed (name_in table) tree
  pub plain : (table : Plan) (alias : List ℕ) (tree : PlanTree) (bytes : List ℕ) (metered : Metered) → has_floats (setting_in table).schema ≡ false → AreNamed (name_in table) tree → HasOneText table alias tree bytes metered

-- ---- a first fault is told in one way

pub told : Fault → MeterFault
told (not_response path why) = NotResponse path why
told (size_broken path size length) = SizeBroken path size length

pub first_told : (fault : MeterFault) (first : Option Fault) → fault ≢ MeterMemory → Tells fault first → option_map told first ≡ Some fault
unfolding told
first_told (NotResponse path why) first other tells = ap (option_map told) tells
first_told (SizeBroken path size length) first other tells = ap (option_map told) tells
first_told MeterMemory first other tells = absurd (other refl)

-- ---- by what a plan holds

-- what is the same is alike
same_body : (outcome : Outcome) (body other : List ℕ) → body ≡ other → AreBodiesAlike outcome body other
same_body (Reply reply) body other same = inl same
same_body (NoReply fault) body other same = same
same_body NoMemory body other same = same

same_answer : (outcome : Outcome) (a b : Finished) → a ≡ b → AreAnsweredAlike outcome a b
same_answer outcome a b same = record {
  status = ap (λ (f : Finished). f.status) same;
  bound = ap (λ (f : Finished). f.bound) same;
  charged = ap (λ (f : Finished). f.charged) same;
  body = same_body outcome a.body b.body (ap (λ (f : Finished). f.body) same);
}

-- answers to measures that are alike
answers_alike : (reply : UpstreamReply) (bound : Cost) (m n : Metered) (a b : Finished) → AreMeasuredAlike reply.body.items m n → a ≡ finished_as 200 m.text bound m.cost
    → b ≡ finished_as 200 n.text bound n.cost → AreAnsweredAlike (Reply reply) a b
answers_alike reply bound m n a b alike is is_too =
    subst (λ (f : Finished). AreAnsweredAlike (Reply reply) f b) (sym is)
    (subst (λ (f : Finished). AreAnsweredAlike (Reply reply) (finished_as 200 m.text bound m.cost) f) (sym is_too)
    (record {
      status = refl;
      bound = refl;
      charged = alike.cost;
      body = inr alike.texts;
    }))

-- the plan holds a sound tree, whose possible types have different names
record HoldsNamed (plan : Plan) : Type 0 where
  tree : PlanTree
  sound : HoldsSound plan tree
  named : AreNamed (name_in plan) tree

metered_eq : (a b : Metered) → a.cost ≡ b.cost → a.text ≡ b.text → a ≡ b
metered_eq a b costs texts = λ i. record {
  cost = costs i;
  text = texts i;
}

module _ (laws : OneReading) (plan : Plan) (alias : List ℕ) (tree : PlanTree) (reply : List ℕ) (a b : Metered) (named : AreNamed (name_in plan) tree) (m : IsMetered plan alias tree reply a) (n : IsMetered plan alias tree reply b) where
  abbrev read_once : (m.content ≡ n.content) × (m.errors ≡ n.errors)
  read_once = laws.once (name_in plan) alias tree reply named m.content n.content m.errors n.errors m.reads n.reads

  cost_once : a.cost ≡ b.cost
  cost_once =
      cost_eq a.cost b.cost
      (m.types_cost ∙ (ap (reply_cost types tree) read_once.0 ∙ sym n.types_cost))
      (m.fields_cost ∙ (ap (reply_cost fields tree) read_once.0 ∙ sym n.fields_cost))

  -- a reply is measured alike by one tree
  pub metered_alike : AreMeasuredAlike reply a b
  metered_alike = record {
    cost = cost_once;
    texts = record {
      name = name_in plan;
      alias = alias;
      plan = tree;
      content = m.content;
      errors = m.errors;
      reads = m.reads;
      is_text = m.text;
      is_other = subst (λ content. IsAnswerText content m.errors b.text) (sym read_once.0) (subst (λ errors. IsAnswerText n.content errors b.text) (sym read_once.1) n.text);
    };
  }

  -- it is measured in one way, where the schema lets no floats in
  pub metered_once : has_floats (setting_in plan).schema ≡ false → a ≡ b
  metered_once none =
      metered_eq a b cost_once
      (laws.plain plan alias tree reply a none named m
      ∙ (ap (λ content. response_text content m.errors) read_once.0 ∙ (ap (response_text n.content) read_once.1 ∙ sym (laws.plain plan alias tree reply b none named n))))

-- a reply that is measured passes each test
pub metered_passes : OneReading → (plan : Plan) (alias : List ℕ) (tree : PlanTree) (reply : List ℕ) (metered : Metered) → AreNamed (name_in plan) tree
    → IsMetered plan alias tree reply metered → first_fault_in plan alias tree reply ≡ None
metered_passes laws plan alias tree reply metered named m = (laws.passes (holds_in plan) (name_in plan) alias tree reply named).1 (m.content, m.errors, m.reads, m.is_response)

module _ (laws : OneReading) (g : Grant) (reply : List ℕ) (h : HoldsNamed g.plan) where
  alike_measures : (a b : Metered) → IsMeasuredBy g.plan g.alias reply a → IsMeasuredBy g.plan g.alias reply b → AreMeasuredAlike reply a b
  alike_measures a b of_a of_b = metered_alike laws g.plan g.alias h.tree reply a b h.named (of_a h.tree h.sound) (of_b h.tree h.sound)

  one_measure : has_floats (setting_in g.plan).schema ≡ false → (a b : Metered) → IsMeasuredBy g.plan g.alias reply a → IsMeasuredBy g.plan g.alias reply b → a ≡ b
  one_measure none a b of_a of_b = metered_once laws g.plan g.alias h.tree reply a b h.named (of_a h.tree h.sound) (of_b h.tree h.sound) none

  first_is : (fault : MeterFault) → HasReplyFault g reply fault → option_map told (first_fault_in g.plan g.alias h.tree reply) ≡ Some fault
  first_is fault has = first_told fault (first_fault_in g.plan g.alias h.tree reply) has.0 (has.1 h.tree h.sound)

  one_fault : (a b : MeterFault) → HasReplyFault g reply a → HasReplyFault g reply b → a ≡ b
  one_fault a b of_a of_b = same_Some a b (sym (first_is a of_a) ∙ first_is b of_b)

  not_both : (a : Metered) (b : MeterFault) → IsMeasuredBy g.plan g.alias reply a → HasReplyFault g reply b → ⊥
  not_both a b of_a of_b =
      none-some b (sym (ap (option_map told) (metered_passes laws g.plan g.alias h.tree reply a h.named (of_a h.tree h.sound))) ∙ first_is b of_b)

  faulty_alike : (e f : MeterFault) (a b : Finished) → HasReplyFault g reply e → HasReplyFault g reply f → a ≡ finished_as 502 (message_body (reply_text e)) g.ticket.bound g.ticket.bound
      → b ≡ finished_as 502 (message_body (reply_text f)) g.ticket.bound g.ticket.bound → a ≡ b
  faulty_alike e f a b faulty faulty_too is is_too =
      is ∙ (ap (λ fault. finished_as 502 (message_body (reply_text fault)) g.ticket.bound g.ticket.bound) (one_fault e f faulty faulty_too) ∙ sym is_too)

  one_reply : has_floats (setting_in g.plan).schema ≡ false → (a b : Finished) → IsReplied g reply a → IsReplied g reply b → a ≡ b
  one_reply none a b (inl (m, measured, is)) (inl (n, measured_too, is_too)) =
      is ∙ (ap (λ (metered : Metered). finished_as 200 metered.text g.ticket.bound metered.cost) (one_measure none m n measured measured_too) ∙ sym is_too)
  one_reply none a b (inl (m, measured, is)) (inr (f, faulty, is_too)) = absurd (not_both m f measured faulty)
  one_reply none a b (inr (f, faulty, is)) (inl (m, measured, is_too)) = absurd (not_both m f measured faulty)
  one_reply none a b (inr (f, faulty, is)) (inr (e, faulty_too, is_too)) = faulty_alike f e a b faulty faulty_too is is_too

alike_replies : (laws : OneReading) (g : Grant) (reply : UpstreamReply) → HoldsNamed g.plan → (a b : Finished) → IsReplied g reply.body.items a → IsReplied g reply.body.items b → AreAnsweredAlike (Reply reply) a b
alike_replies laws g reply h a b (inl (m, measured, is)) (inl (n, measured_too, is_too)) =
    answers_alike reply g.ticket.bound m n a b (alike_measures laws g reply.body.items h m n measured measured_too) is is_too
alike_replies laws g reply h a b (inl (m, measured, is)) (inr (f, faulty, is_too)) = absurd (not_both laws g reply.body.items h m f measured faulty)
alike_replies laws g reply h a b (inr (f, faulty, is)) (inl (m, measured, is_too)) = absurd (not_both laws g reply.body.items h m f measured faulty)
alike_replies laws g reply h a b (inr (f, faulty, is)) (inr (e, faulty_too, is_too)) = same_answer (Reply reply) a b (faulty_alike laws g reply.body.items h f e a b faulty faulty_too is is_too)

one_unanswered : (bound : Cost) (fault : LinkFault) (a b : Finished) → IsUnanswered bound fault a → IsUnanswered bound fault b → a ≡ b
one_unanswered bound Down a b is is_too = is ∙ sym is_too
one_unanswered bound Failed a b is is_too = is ∙ sym is_too
one_unanswered bound BadReplyHead a b is is_too = is ∙ sym is_too
one_unanswered bound Coded a b is is_too = is ∙ sym is_too
one_unanswered bound TooLarge a b is is_too = is ∙ sym is_too
one_unanswered bound Truncated a b is is_too = is ∙ sym is_too
one_unanswered bound BadChunk a b is is_too = is ∙ sym is_too
one_unanswered bound Memory a b is is_too = absurd is

-- ---- by what was granted

module _ (laws : OneReading) (rules : Rules) (body : List ℕ) (g : Grant) where
  named_by : TypesDiffer rules.schema → IsPromisedFor rules body (promise_of g) → HoldsNamed g.plan
  named_by differ (asked, is_request, (document, is_document, (goes, promised))) =
      let planned = promised.is_accepted.is_planned in
      let tree = plan_tree (request_of rules asked document) planned.prepared in
      record {
        tree = tree;
        sound = (planned.rows, subst (λ s. IsSound (holds s) tree) (sym promised.of_schema) promised.is_accepted.is_sound);
        named = laws.named g.plan tree (subst TypesDiffer (sym promised.of_schema) differ) planned.rows;
      }

  plain_by : has_floats rules.schema ≡ false → IsPromisedFor rules body (promise_of g) → has_floats (setting_in g.plan).schema ≡ false
  plain_by none (asked, is_request, (document, is_document, (goes, promised))) = ap has_floats promised.of_schema ∙ none

held_by : OneReading → (rules : Rules) (g : Grant) → IsGrantedBy rules g → HoldsNamed g.plan
held_by laws rules g granted = named_by laws rules granted.body g granted.differ granted.promised

module _ (laws : OneReading) (rules : Rules) (g : Grant) where
  none_by : has_floats rules.schema ≡ false → IsGrantedBy rules g → has_floats (setting_in g.plan).schema ≡ false
  none_by none granted = plain_by laws rules granted.body g none granted.promised

  pub measured_alike : (reply : List ℕ) (a b : Metered) → IsGrantedBy rules g → IsMeasuredBy g.plan g.alias reply a → IsMeasuredBy g.plan g.alias reply b → AreMeasuredAlike reply a b
  measured_alike reply a b granted = alike_measures laws g reply (held_by laws rules g granted) a b

  pub measured_once : (reply : List ℕ) (a b : Metered) → has_floats rules.schema ≡ false → IsGrantedBy rules g → IsMeasuredBy g.plan g.alias reply a → IsMeasuredBy g.plan g.alias reply b → a ≡ b
  measured_once reply a b none granted = one_measure laws g reply (held_by laws rules g granted) (none_by none granted) a b

  pub faulty_once : (reply : List ℕ) (a b : MeterFault) → IsGrantedBy rules g → HasReplyFault g reply a → HasReplyFault g reply b → a ≡ b
  faulty_once reply a b granted = one_fault laws g reply (held_by laws rules g granted) a b

  pub measured_or_faulty : (reply : List ℕ) (a : Metered) (b : MeterFault) → IsGrantedBy rules g → IsMeasuredBy g.plan g.alias reply a → HasReplyFault g reply b → ⊥
  measured_or_faulty reply a b granted = not_both laws g reply (held_by laws rules g granted) a b

  pub answered_alike : (outcome : Outcome) (a b : Finished) → IsGrantedBy rules g → IsConcluded g outcome a → IsConcluded g outcome b → AreAnsweredAlike outcome a b
  answered_alike (Reply reply) a b granted is is_too = alike_replies laws g reply (held_by laws rules g granted) a b is is_too
  answered_alike (NoReply fault) a b granted is is_too = same_answer (NoReply fault) a b (one_unanswered g.ticket.bound fault a b is is_too)
  answered_alike NoMemory a b granted is is_too = absurd is

  pub answered_once : (outcome : Outcome) (a b : Finished) → has_floats rules.schema ≡ false → IsGrantedBy rules g → IsConcluded g outcome a → IsConcluded g outcome b → a ≡ b
  answered_once (Reply reply) a b none granted is is_too = one_reply laws g reply.body.items (held_by laws rules g granted) (none_by none granted) a b is is_too
  answered_once (NoReply fault) a b none granted is is_too = one_unanswered g.ticket.bound fault a b is is_too
  answered_once NoMemory a b none granted is is_too = absurd is
