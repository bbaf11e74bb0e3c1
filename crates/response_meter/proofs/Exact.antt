-- A reply passes every test exactly where it reads as a response.
use Rattle.std.proofs.Common.{◌≡◌, ◌↔◌, ◌<◌, ℕ, List, [], ◌∷◌, Bool, true, false, codes, Option, Some, None, refl, sym, ap, ◌∙◌, subst, arith}
use Rattle.serde_json.specs.Data.{Data, null as json_null, boolean, number, string, array, object as json_object, Members, no_members}
use Rattle.serde_json.specs.Find.{as_object}
use Rattle.response_model.specs.Plan.{Plan, single}
use Rattle.response_model.specs.Response.{Tree}
use Rattle.response_meter.specs.declared.fault.Why.{Why}
use Rattle.response_meter.specs.declared.fault.Why.TheVariants.{NotJson, NotObject, BadErrors}
use Rattle.response_meter.specs.Faults.{Fault, at_step, given}
use Rattle.response_meter.specs.FirstFault.{AreNamed}
use Rattle.response_model.specs.Errors.{ResponseError, errors_of}
use Rattle.response_meter.specs.Reply.{json_of, errors_entry, data_entry, DataReads, ReplyReads, IsResponseOrNone, IsReadable, content_fault, reply_fault, first_reply_fault}
use Rattle.response_meter.proofs.Passing.{some_none, step_none, content_reads}
use Rattle.response_meter.proofs.Reading.{place_passes, value_passes}
use Rattle.response_meter.proofs.ReadTrees.{data_read}

given_some : {A : Type 0} (o : Option A) (why : Why) (f : A → Option Fault) → given o why f ≡ None → (x : A) × (o ≡ Some x) × (f x ≡ None)
given_some None why f h = some_none h
given_some (Some x) why f h = (x, refl, h)

object_same : (d : Data) (ms : Members) → as_object d ≡ Some ms → d ≡ json_object ms
object_same json_null ms h = some_none (sym h)
object_same (boolean b) ms h = some_none (sym h)
object_same (number n) ms h = some_none (sym h)
object_same (string s) ms h = some_none (sym h)
object_same (array ds) ms h = some_none (sym h)
object_same (json_object ns) ms h = ap (λ (o : Option Members). json_object (members_in o)) h
  where
    members_in : Option Members → Members
    members_in None = no_members
    members_in (Some ms) = ms

module _ (holds : ℕ → Data → Bool) (name : ℕ → List ℕ) (alias : List ℕ) where
  passes_reads : (plan : Plan) (bytes : List ℕ) → first_reply_fault holds name alias plan bytes ≡ None → IsReadable holds name alias plan bytes
  passes_reads plan bytes h =
      let a = given_some (json_of bytes) NotJson (λ json. given (as_object json) NotObject (λ ms. given (errors_of (errors_entry ms)) BadErrors (λ errors. content_fault holds name alias plan errors (data_entry ms))))
      (step_none (codes "data") (reply_fault holds name alias plan bytes) h) in
      let b = given_some (as_object a.0) NotObject (λ ms. given (errors_of (errors_entry ms)) BadErrors (λ errors. content_fault holds name alias plan errors (data_entry ms))) a.2 in
      let c = given_some (errors_of (errors_entry b.0)) BadErrors (λ errors. content_fault holds name alias plan errors (data_entry b.0)) b.2 in
      let d = content_reads holds name alias plan c.0 (data_entry b.0) c.2 in
      (_, c.0, record { members = b.0; is_json = a.1 ∙ ap Some (object_same a.0 b.0 b.1); errors_read = c.1; data_read = d.0 }, d.1)

  content_passes : (plan : Plan) → AreNamed name plan → (errors : List ResponseError) (o : Option Data) (t : Option Tree) → DataReads name alias plan errors o t → IsResponseOrNone holds plan t → content_fault holds name alias plan errors o ≡ None
  content_passes plan named [] None None r k = absurd (none_less r)
    where
      none_less : 0 < 0 → ⊥
      none_less l = omega arith
  content_passes plan named (e ∷ es) None None r k = refl
  content_passes plan named errors None (Some t) r k = absurd r
  content_passes plan named errors (Some d) None r k = absurd r
  content_passes plan named [] (Some d) (Some t) r k = place_passes holds name alias (single true) false plan (value_passes holds name alias false plan named) None d t r k.0 k.1
  content_passes plan named (e ∷ es) (Some d) (Some t) r k = place_passes holds name alias (single true) false plan (value_passes holds name alias false plan named) None d t r k.0 k.1

  reads_passes : (plan : Plan) (bytes : List ℕ) → AreNamed name plan → IsReadable holds name alias plan bytes → first_reply_fault holds name alias plan bytes ≡ None
  reads_passes plan bytes named read =
      let r = read.2 in
      ap (at_step (codes "data"))
      (ap (λ o. given o NotJson (λ json. given (as_object json) NotObject (λ ms. given (errors_of (errors_entry ms)) BadErrors (λ errors. content_fault holds name alias plan errors (data_entry ms))))) r.is_json
      ∙ ap (λ o. given o BadErrors (λ errors. content_fault holds name alias plan errors (data_entry r.members))) r.errors_read
      ∙ content_passes plan named read.1 (data_entry r.members) read.0 r.data_read read.3)

  pub fault_or_reads : (plan : Plan) (bytes : List ℕ) → AreNamed name plan → (first_reply_fault holds name alias plan bytes ≡ None) ↔ IsReadable holds name alias plan bytes
  fault_or_reads plan bytes named = (passes_reads plan bytes, reads_passes plan bytes named)

told : (o : Option Fault) (P : Type 0) → (o ≡ None → P) → (P → ⊥) → (f : Fault) × (o ≡ Some f)
told None P reads h = absurd (h (reads refl))
told (Some f) P reads h = (f, refl)

pub refused_only : (o : Option Fault) (P : Type 0) → (o ≡ None) ↔ P → ((f : Fault) × (o ≡ Some f)) ↔ (P → ⊥)
refused_only o P law = (λ x p. some_none (sym x.1 ∙ law.1 p), told o P law.0)

-- one reading
abbrev data_in : Option Data → Data
data_in None = json_null
data_in (Some d) = d

abbrev members_of : Data → Members
members_of json_null = no_members
members_of (boolean b) = no_members
members_of (number n) = no_members
members_of (string s) = no_members
members_of (array ds) = no_members
members_of (json_object ms) = ms

abbrev errors_from : Option (List ResponseError) → List ResponseError
errors_from None = []
errors_from (Some es) = es

module _ (name : ℕ → List ℕ) (alias : List ℕ) where
  one_data : (plan : Plan) → AreNamed name plan → (es fs : List ResponseError) (o : Option Data) (t s : Option Tree) → DataReads name alias plan es o t → DataReads name alias plan fs o s → t ≡ s
  one_data plan named es fs None None None p q = refl
  one_data plan named es fs None None (Some s) p q = absurd q
  one_data plan named es fs None (Some t) s p q = absurd p
  one_data plan named es fs (Some d) None s p q = absurd p
  one_data plan named es fs (Some d) (Some t) None p q = absurd q
  one_data plan named es fs (Some d) (Some t) (Some s) p q = ap Some (data_read name alias plan named d t p ∙ sym (data_read name alias plan named d s q))

  pub one_reply_read : (plan : Plan) → AreNamed name plan → (bytes : List ℕ) (t s : Option Tree) (es fs : List ResponseError) → ReplyReads name alias plan bytes t es → ReplyReads name alias plan bytes s fs → (t ≡ s) × (es ≡ fs)
  one_reply_read plan named bytes t s es fs p q =
      let same : p.members ≡ q.members = ap (λ (o : Option Data). members_of (data_in o)) (sym p.is_json ∙ q.is_json) in (
        one_data plan named es fs (data_entry q.members) t s (subst (λ (ms : Members). DataReads name alias plan es (data_entry ms) t) same p.data_read) q.data_read,
        ap errors_from (sym p.errors_read ∙ ap (λ (ms : Members). errors_of (errors_entry ms)) same ∙ q.errors_read),
      )
