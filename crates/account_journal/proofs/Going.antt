-- Reading goes on by one slot, or is refused, or ends.
use Rattle.std.proofs.Common.{◌≡◌, ⊎_elim, ℕ, ◌+◌, ◌≤◌, ◌<◌, true, List, [], ◌++◌, length, take, get_or, Option, refl, sym, ◌∙◌, ap, subst, arith}
use Rattle.std.proofs.lemmas.List.{take_more, length-take-le}
use Rattle.std.proofs.lemmas.Bool.{cases_lt, cases_eq}
use Rattle.account_core.specs.declared.Limit.{Limit}
use Rattle.account_core.specs.Machine.{Entry}
use Rattle.account_journal.specs.declared.reading.OpenFault.{OpenFault}
use Rattle.account_journal.specs.declared.reading.OpenFault.TheVariants.{Failed, OtherClients, Damaged, Memory}
use Rattle.account_journal.specs.declared.reading.Reading.{Reading}
use Rattle.account_journal.specs.Records.{record_of}
use Rattle.account_journal.specs.Histories.{entries_of, replayed}
use Rattle.account_journal.specs.Reading.{HasReadSlots, HasRead, IsReading, IsBodyNext, IsValidSlot, RefusesBody, IsFaultOf, history_to, is_header, mark_in}
use Rattle.account_journal.proofs.Longer.{listed-push}
use Rattle.journal_disk.specs.Images.{CrashesLeave}

pub read_begun : (limits : List Limit) (mark : List ℕ) (slots : List (List ℕ)) → HasReadSlots limits mark slots 0 []
unfolding replayed
read_begun limits mark slots = record {
  within = omega arith;
  same = refl;
  good = λ k lt. absurd (omega (arith, lt));
  marked = λ some. absurd (omega (arith, some));
}

module _ (limits : List Limit) (mark : List ℕ) (slots : List (List ℕ)) (used : ℕ) (list : List Entry) (r : HasReadSlots limits mark slots used list) (body : List ℕ) (there : used < length slots) (is : get_or slots used [] ≡ body) where
  pub read_more : IsBodyNext limits list used body → (used ≡ 0 → mark_in body ≡ mark) → HasReadSlots limits mark slots (used + 1) (list ++ entries_of list used (record_of body))
  read_more good marked = record {
    within = omega (arith, there);
    same =
        ap (λ (l : List Entry). l ++ entries_of l used (record_of body)) r.same
        ∙ (λ i. history_to slots used ++ entries_of (history_to slots used) (place i) (record_of (is_sym i)))
        ∙ sym (listed-push [] 0 (take used slots) (get_or slots used []))
        ∙ ap (replayed [] 0) (sym (take_more slots used [] there));
    good = λ k lt. ⊎_elim
        (λ (before : k < used). r.good k before)
        (λ (here : used ≤ k). subst (λ (n : ℕ). IsValidSlot limits slots n) {x = used} {y = k} (omega (arith, here, lt)) now_good)
        (cases_lt k used);
    marked = λ some here. ⊎_elim
        (λ (none : used ≡ 0). ap mark_in (ap (λ (n : ℕ). get_or slots n []) (sym none) ∙ is) ∙ marked none)
        (λ others. r.marked (omega (arith, others)) here)
        (cases_eq used 0);
  }
    where
      place : used ≡ 0 + length (take used slots)
      place = omega (arith, length-take-le used slots (omega (arith, there)))

      is_sym : body ≡ get_or slots used []
      is_sym = sym is

      now_good : IsValidSlot limits slots used
      now_good = subst (λ (l : List Entry). IsBodyNext limits l used (get_or slots used [])) r.same (subst (IsBodyNext limits list used) (sym is) good)

  pub read_refused : (f : OpenFault) (P : List Entry → Type 0) → P list → RefusesBody f used ((hs : List Entry) → P hs → IsBodyNext limits hs used body → ⊥) ((is_header body ≡ true) × (mark_in body ≡ mark → ⊥)) → IsFaultOf f limits mark slots
  read_refused Failed P here refused = tt
  read_refused OtherClients P here refused =
      let first : get_or slots 0 [] ≡ body = ap (λ (n : ℕ). get_or slots n []) (sym refused.0) ∙ is in
      record {
        present = omega (arith, there);
        header = ap is_header first ∙ refused.1.0;
        other = λ same. refused.1.1 (ap mark_in (sym first) ∙ same);
      }
  read_refused (Damaged n) P here refused = record {
    present = omega (arith, refused.0, there);
    before = λ k lt. r.good k (omega (arith, lt, refused.0));
    bad = λ good. refused.1 list here (subst (IsBodyNext limits list used) is (subst (λ (l : List Entry). IsBodyNext limits l used (get_or slots used [])) (sym r.same) (subst (λ (k : ℕ). IsValidSlot limits slots k) refused.0 good)));
    marked = λ some. r.marked (omega (arith, some, refused.0));
  }
  read_refused Memory P here refused = tt

-- the loop of a reading: the slots that were read are those of the disk as it was, and a crash leaves what it would have left then
pub record IsReadingOn {D : Type 0} (reads : D → Option (List ℕ)) (image : D → List ℕ → Type 0) (moment : D → ℕ) (image_since : D → ℕ → List ℕ → Type 0) (faults : D → ℕ) (limits : List Limit) (mark : List ℕ) (old now : D) (r : Reading) : Type 0 where
  pub reading : IsReading limits r
  pub read : HasRead (reads old) limits mark r
  pub same : reads now ≡ reads old
  pub images : (c : List ℕ) → image now c → image old c
  pub moments : CrashesLeave moment image_since old now (image old)
  pub count : faults old ≤ faults now
