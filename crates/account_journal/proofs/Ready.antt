-- A disk all of whose slots were read.
use Rattle.std.proofs.Common.{◌≡◌, ⊎_elim, ℕ, ◌+◌, true, ◌==◌, List, [], ◌∷◌, ◌++◌, length, replicate, Option, Some, is_some, sym, ◌∙◌, ap, subst, arith}
use Rattle.std.proofs.lemmas.List.{append-nil, take_all, drop_at}
use Rattle.std.proofs.lemmas.Option.{same_Some}
use Rattle.std.specs.List.{list_all}
use Rattle.account_core.specs.declared.Limit.{Limit}
use Rattle.account_core.specs.Machine.{Entry}
use Rattle.journal_disk.specs.Images.{IsDurable}
use Rattle.account_journal.specs.Slots.{bodies, IsAtRest, HoldsSlots, HasSlotOrNot}
use Rattle.account_journal.specs.Records.{header_bytes}
use Rattle.account_journal.specs.Histories.{entries_of, replayed, history_in, IsStored}
use Rattle.account_journal.specs.Reading.{HasReadSlots, IsIntact, AreValidSlots, is_header}
use Rattle.account_journal.proofs.Longer.{listed-push, told_before}
use Rattle.account_journal.proofs.Spelling.{header_is_none}

-- what is told is told once
pub rests_told : (reads : Option (List ℕ)) (image : List ℕ → Type 0) (used : ℕ) (slots : List (List ℕ)) → HoldsSlots reads image used slots → (x : List ℕ) → reads ≡ Some x → IsAtRest used x × (bodies x ≡ slots) × IsDurable x image
rests_told reads image used slots r x told =
    let same = same_Some r.file x (sym r.told ∙ told) in
    (subst (IsAtRest used) same r.rest, ap bodies (sym same) ∙ r.same, λ c left. r.durable c left ∙ same)

pub kept_read : (before after : Option (List ℕ)) (image : List ℕ → Type 0) (used : ℕ) (slots : List ℕ → List (List ℕ)) (list : List Entry)
    → ((b : List ℕ) → before ≡ Some b → HoldsSlots after image used (slots b)) → ((b : List ℕ) → before ≡ Some b → replayed [] 0 (slots b) ≡ list) → is_some after ≡ is_some before → IsStored after image used list
kept_read before after image used slots list rest are tells = record {
  rest = λ x told. let b = told_before before after x tells told in (rests_told after image used (slots b.0) (rest b.0 b.1) x told).0;
  same = λ x told. let b = told_before before after x tells told in ap (replayed [] 0) (rests_told after image used (slots b.0) (rest b.0 b.1) x told).1 ∙ are b.0 b.1;
  durable = λ x told. let b = told_before before after x tells told in (rests_told after image used (slots b.0) (rest b.0 b.1) x told).2;
}

module _ (limits : List Limit) (mark : List ℕ) (b : List ℕ) (used : ℕ) (list : List Entry) (all : length (bodies b) ≡ used) (r : HasReadSlots limits mark (bodies b) used list) where
  pub list_is : list ≡ history_in b
  list_is = r.same ∙ ap (replayed [] 0) (take_all used (bodies b) (omega (arith, all)))

  pub whole_is : IsIntact limits mark (bodies b)
  whole_is = record {
    good = subst (λ (n : ℕ). AreValidSlots limits (bodies b) n) (sym all) r.good;
    marked = λ some. r.marked (omega (arith, some, all)) some;
  }

pub header_is : (mark : List ℕ) → length mark ≡ 32 → is_header (header_bytes mark) ≡ true
header_is mark long = ap (list_all (λ b. b == 0)) (drop_at mark (replicate 30 0) 32 long)

-- the header makes no entry
pub stored_header : (slots : List (List ℕ)) (mark : List ℕ) → length mark ≡ 32 → replayed [] 0 (slots ++ header_bytes mark ∷ []) ≡ replayed [] 0 slots
stored_header slots mark long =
    listed-push [] 0 slots (header_bytes mark)
    ∙ ap (λ o. replayed [] 0 slots ++ entries_of (replayed [] 0 slots) (0 + length slots) o) (header_is_none (header_bytes mark) (header_is mark long))
    ∙ append-nil (replayed [] 0 slots)

pub header_crash : (slots : List (List ℕ)) (mark c : List ℕ) → length mark ≡ 32 → HasSlotOrNot slots (header_bytes mark) c → history_in c ≡ replayed [] 0 slots
header_crash slots mark c long is = ⊎_elim
    (λ without. ap (replayed [] 0) without)
    (λ with_it. ap (replayed [] 0) with_it ∙ stored_header slots mark long)
    is
