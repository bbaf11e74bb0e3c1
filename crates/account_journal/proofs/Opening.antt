-- The settlements of an opening, one by one.
use Rattle.std.proofs.Common.{◌≡◌, ⊎_elim, ℕ, zero, suc, ◌+◌, ◌≤◌, ◌<◌, List, [], ◌∷◌, ◌++◌, length, take, drop, get_or, Option, Some, is_some, refl, sym, ◌∙◌, ap, subst, arith, append_assoc}
use Rattle.std.proofs.lemmas.List.{append-nil, drop_more, take_all, drop_all}
use Rattle.account_core.specs.Machine.{Entry}
use Rattle.journal_disk.specs.Images.{CrashesLeave}
use Rattle.account_journal.specs.declared.journal.Journal.{Journal}
use Rattle.account_journal.specs.declared.reading.OpenGrant.{OpenGrant}
use Rattle.account_journal.specs.Histories.{HasEntryOrNot}
use Rattle.account_journal.specs.Journals.{IsSound}
use Rattle.account_journal.specs.Recovery.{IsReady, HasSettled, HasSomeSettlements, settlements, bound_settlement}

pub record IsUnderWay {D : Type 0} (reads : D → Option (List ℕ)) (image : D → List ℕ → Type 0) (moment : D → ℕ) (image_since : D → ℕ → List ℕ → Type 0) (faults : D → ℕ) (old now : Journal D) (opens : List OpenGrant) (at : ℕ) : Type 0 where
  pub within : at ≤ length opens
  pub sound : IsSound now
  pub limits : now.limits ≡ old.limits
  pub used : now.used ≡ old.used + at
  pub tells : is_some (reads now.disk) ≡ is_some (reads old.disk)
  pub settled : (hs : List Entry) → IsReady reads image old opens hs → HasSettled reads image moment image_since old now opens at hs
  pub count : faults old.disk ≤ faults now.disk

pub take-settlements : (slot at : ℕ) (opens : List OpenGrant) (d : OpenGrant) → at < length opens → take (suc at) (settlements slot opens) ≡ take at (settlements slot opens) ++ bound_settlement (slot + at) (get_or opens at d) ∷ []
unfolding settlements
take-settlements slot at [] d lt = absurd (omega (arith, lt))
take-settlements slot zero (o ∷ os) d lt = ap (λ (n : ℕ). bound_settlement n o ∷ []) (omega arith)
take-settlements slot (suc at) (o ∷ os) d lt = ap (λ (l : List Entry). bound_settlement slot o ∷ l) (take-settlements (slot + 1) at os d (omega (arith, lt)) ∙ ap (λ (n : ℕ). take at (settlements (slot + 1) os) ++ bound_settlement n (get_or os at d) ∷ []) (omega arith))

pub length-settlements : (slot : ℕ) (opens : List OpenGrant) → length (settlements slot opens) ≡ length opens
unfolding settlements
length-settlements slot [] = refl
length-settlements slot (o ∷ os) = ap suc (length-settlements (slot + 1) os)

-- the next settlement, or none of it, makes some first ones
pub some_more : (entries : List Entry) (slot at : ℕ) (opens : List OpenGrant) (d : OpenGrant) (used : ℕ) (c : List ℕ) → at < length opens → used ≡ slot + at
    → HasEntryOrNot (entries ++ take at (settlements slot opens)) (bound_settlement used (get_or opens at d)) c → HasSomeSettlements entries slot opens c
some_more entries slot at opens d used c lt is = ⊎_elim
    (λ without. (at, without))
    (λ with_it. (
      suc at,
      with_it ∙ append_assoc entries (take at (settlements slot opens)) (bound_settlement used (get_or opens at d) ∷ [])
          ∙ ap (λ (n : ℕ). entries ++ (take at (settlements slot opens) ++ bound_settlement n (get_or opens at d) ∷ [])) is
          ∙ ap (λ (l : List Entry). entries ++ l) (sym (take-settlements slot at opens d lt)),
    ))

pub list_more : (entries : List Entry) (slot at : ℕ) (opens : List OpenGrant) (d : OpenGrant) (used : ℕ) → at < length opens → used ≡ slot + at
    → (entries ++ take at (settlements slot opens)) ++ bound_settlement used (get_or opens at d) ∷ [] ≡ entries ++ take (at + 1) (settlements slot opens)
list_more entries slot at opens d used lt is =
    append_assoc entries (take at (settlements slot opens)) (bound_settlement used (get_or opens at d) ∷ [])
    ∙ ap (λ (n : ℕ). entries ++ (take at (settlements slot opens) ++ bound_settlement n (get_or opens at d) ∷ [])) is
    ∙ ap (λ (l : List Entry). entries ++ l) (sym (take-settlements slot at opens d lt))
    ∙ ap (λ (n : ℕ). entries ++ take n (settlements slot opens)) {x = suc at} {y = at + 1} (omega arith)

module _ {D : Type 0} (reads : D → Option (List ℕ)) (image : D → List ℕ → Type 0) (moment : D → ℕ) (image_since : D → ℕ → List ℕ → Type 0) (faults : D → ℕ) where
  pub begun : (j : Journal D) (opens : List OpenGrant) → IsSound j → ((b : List ℕ) (hs : List Entry) → reads j.disk ≡ Some b → IsReady reads image j opens hs → CrashesLeave moment image_since j.disk j.disk (HasSomeSettlements hs j.used opens))
      → IsUnderWay reads image moment image_since faults j j opens 0
  begun j opens sound here = record {
    within = omega arith;
    sound = sound;
    limits = refl;
    used = omega arith;
    tells = refl;
    settled = λ hs ready. record { ready = subst (IsReady reads image j opens) (sym (append-nil hs)) ready; moments = λ b told. here b hs told ready };
    count = omega arith;
  }

  pub first_left : (j : Journal D) (opens : List OpenGrant) (at : ℕ) (d : OpenGrant) (hs : List Entry) → at < length opens → IsReady reads image j (drop at opens) hs → IsReady reads image j (get_or opens at d ∷ drop (at + 1) opens) hs
  first_left j opens at d hs lt ready = subst (λ (l : List OpenGrant). IsReady reads image j l hs) (drop_more opens at d lt) ready

  pub ended : (old now : Journal D) (opens : List OpenGrant) (at : ℕ) (hs : List Entry) → IsUnderWay reads image moment image_since faults old now opens at → length opens ≤ at → IsReady reads image old opens hs
      → IsReady reads image now [] (hs ++ settlements old.used opens)
  ended old now opens at hs way all ready =
      subst (λ (l : List OpenGrant). IsReady reads image now l (hs ++ settlements old.used opens)) (drop_all at opens (omega (arith, way.within, all)))
      (subst (λ (l : List Entry). IsReady reads image now (drop at opens) (hs ++ l)) (take_all at (settlements old.used opens) (omega (arith, all, length-settlements old.used opens))) (way.settled hs ready).ready)
