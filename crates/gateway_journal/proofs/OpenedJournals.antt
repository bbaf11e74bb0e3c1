-- A journal that is opened for the clients of a gate is kept for it.
use Rattle.std.proofs.Common.{◌≡◌, ℕ, ◌<◌, ◌≤◌, List, length, Result, Ok, Err, inl, inr, Option, Some, IfOk, Vec, Global, ◌∙◌, ap, sym, subst}
use Rattle.std.proofs.lemmas.List.{length-map}
use Rattle.std.proofs.lemmas.Option.{same_Some}
use Rattle.std.specs.Prelude.{IfErr}
use Rattle.account_core.specs.declared.Limit.{Limit}
use Rattle.account_journal.specs.declared.journal.Journal.{Journal}
use Rattle.account_journal.specs.Journals.{IsSound, Rests}
use Rattle.account_journal.specs.Histories.{history_in}
use Rattle.account_journal.specs.Recovery.{HasNoneOpen, FailsOrLeavesSince, IsPartlyRecovered}
use Rattle.account_journal.specs.declared.reading.OpenFault.{OpenFault}
use Rattle.account_journal.specs.declared.reading.OpenFault.TheVariants.{Failed}
use Rattle.account_journal.proofs.Recovered.{at_first}
use Rattle.gateway_workers.specs.PassedOn.{Gate, client_limit, rules_of, limits_of}
use Rattle.gateway_journal.specs.Kept.{IsKeptFor}

pub opened_for : {D F : Type 0} (reads : D → Option (List ℕ)) (image : D → List ℕ → Type 0) (gate : Gate) (limits : Vec Limit Global) (opened : Result (Journal D) F)
    → limits.items ≡ limits_of gate → IfOk opened (λ j. IsSound j) → IfOk opened (λ j. j.limits ≡ limits) → IfOk opened (λ j. Rests reads j) → IfOk opened (λ j. HasNoneOpen reads image j)
    → IfOk opened (λ j. IsKeptFor reads j gate)
opened_for reads image gate limits (Err fault) same sound are rests none = tt
opened_for reads image gate limits (Ok j) same sound are rests none = record {
  sound = sound;
  rests = rests;
  limits = ap (λ (l : _). l.items) are ∙ same;
  history = none.list;
  follows = none.stands;
}

-- what a refused opening leaves: what is read of the disk is one of its images
module _ {D : Type 0} (reads : D → Option (List ℕ)) (image : D → List ℕ → Type 0) (moment : D → ℕ) (image_since : D → ℕ → List ℕ → Type 0)
    (now_is_since : (d : D) (t : ℕ) (c : List ℕ) → t ≤ moment d → image d c → image_since d t c) (reads_is_image : (d : D) (told : List ℕ) → reads d ≡ Some told → image d told) where
  pub left_by : (disk : D) (opened : Result (Journal D) (D × OpenFault))
      → IfErr opened (λ e. (b : List ℕ) → reads disk ≡ Some b → FailsOrLeavesSince reads image moment image_since disk e.0 e.1 b (IsPartlyRecovered b))
      → IfErr opened (λ e. (e.1 ≡ Failed → ⊥) → (b file : List ℕ) → reads disk ≡ Some b → reads e.0 ≡ Some file → IsPartlyRecovered b file)
  left_by disk (Ok j) moments = tt
  left_by disk (Err e) moments = λ isnt b file told now. elim (moments b told) [
    | inl failed ↦ absurd (isnt failed.0)
    | inr since ↦ since.behind.each file (now_is_since e.0 (moment since.synced) file since.behind.forward (reads_is_image e.0 file now))
  ]

pub same_left : (before after : Option (List ℕ)) (b file : List ℕ) → after ≡ before → before ≡ Some b → after ≡ Some file → IsPartlyRecovered b file
same_left before after b file same told now = at_first b file (ap history_in (same_Some file b (sym now ∙ same ∙ told)))

-- a client of the gate is one of the journal's
pub known_here : (gate : Gate) (client : ℕ) (limits : List Limit) → limits ≡ limits_of gate → client < length (rules_of gate).clients → client < length limits
known_here gate client limits same low =
    subst (λ (l : List Limit). client < length l) (sym same) (subst (λ n. client < n) (sym (length-map (rules_of gate).clients client_limit)) low)
