-- The history of a file with one slot more.
use Rattle.std.proofs.Common.{◌≡◌, inl, inr, ⊎_elim, ℕ, suc, ◌+◌, List, [], ◌∷◌, ◌++◌, length, Option, Some, None, refl, sym, ◌∙◌, ap, subst, arith, is_some, true≢false}
use Rattle.std.proofs.lemmas.Option.{same_Some}
use Rattle.account_core.specs.Machine.{Entry}
use Rattle.account_journal.specs.Records.{Record, record_of}
use Rattle.account_journal.specs.Slots.{bodies, IsAtRest, HasSlotOrNot, HoldsSlots}
use Rattle.account_journal.specs.Histories.{entries_of, replayed, history_in, IsStored, HasEntryOrNot}
use Rattle.account_journal.proofs.OpenSlots.{rest_bodies}

pub listed-push : (so_far : List Entry) (slot : ℕ) (bs : List (List ℕ)) (b : List ℕ) → replayed so_far slot (bs ++ b ∷ []) ≡ replayed so_far slot bs ++ entries_of (replayed so_far slot bs) (slot + length bs) (record_of b)
unfolding replayed
listed-push so_far slot [] b = ap (λ (n : ℕ). so_far ++ entries_of so_far n (record_of b)) (omega arith)
listed-push so_far slot (x ∷ bs) b =
    let more = so_far ++ entries_of so_far slot (record_of x) in
    listed-push more (suc slot) bs b ∙ ap (λ (n : ℕ). replayed more (suc slot) bs ++ entries_of (replayed more (suc slot) bs) n (record_of b)) (omega arith)

-- a slot more whose record makes one entry
pub stored_more : (c : List ℕ) (bs : List (List ℕ)) (used : ℕ) (b : List ℕ) (r : Record) (e : Entry) (entries : List Entry) → bodies c ≡ bs ++ b ∷ [] → length bs ≡ used → record_of b ≡ Some r
    → replayed [] 0 bs ≡ entries → entries_of entries used (Some r) ≡ e ∷ [] → history_in c ≡ entries ++ e ∷ []
stored_more c bs used b r e entries are count reads same makes =
    ap (replayed [] 0) are ∙ listed-push [] 0 bs b
    ∙ (λ i. same i ++ entries_of (same i) (0 + length bs) (reads i))
    ∙ ap (λ (n : ℕ). entries ++ entries_of entries n (Some r)) (omega (arith, count))
    ∙ ap (λ (l : List Entry). entries ++ l) makes

pub one_more_or_not : (c b body : List ℕ) (used : ℕ) (r : Record) (e : Entry) (entries : List Entry) → IsAtRest used b → history_in b ≡ entries → record_of body ≡ Some r → entries_of entries used (Some r) ≡ e ∷ []
    → HasSlotOrNot (bodies b) body c → HasEntryOrNot entries e c
one_more_or_not c b body used r e entries rest same reads makes =
    ⊎_elim (λ without. inl (ap (replayed [] 0) without ∙ same))
    (λ with_it. inr (stored_more c (bodies b) used body r e entries with_it (ap length (rest_bodies used b rest) ∙ rest.count) reads same makes))

-- what is stored goes on by one slot
pub kept_more : (old new : Option (List ℕ)) (before after : List ℕ → Type 0) (used : ℕ) (body : List ℕ) (r : Record) (e : Entry) (entries : List Entry) → record_of body ≡ Some r → entries_of entries used (Some r) ≡ e ∷ []
    → IsStored old before used entries → ((b : List ℕ) → old ≡ Some b → HoldsSlots new after (used + 1) (bodies b ++ body ∷ [])) → ((c : List ℕ) → new ≡ Some c → (b : List ℕ) × (old ≡ Some b)) → IsStored new after (used + 1) (entries ++ e ∷ [])
kept_more old new before after used body r e entries reads makes kept goes was = record {
  rest = λ c told. let b = was c told in let n = goes b.0 b.1 in subst (IsAtRest (used + 1)) (same_Some n.file c (sym n.told ∙ told)) n.rest;
  same = λ c told. let b = was c told in let n = goes b.0 b.1 in let rest = kept.rest b.0 b.1 in
      ap history_in (sym (same_Some n.file c (sym n.told ∙ told))) ∙ stored_more n.file (bodies b.0) used body r e entries n.same (ap length (rest_bodies used b.0 rest) ∙ rest.count) reads (kept.same b.0 b.1) makes;
  durable = λ c told. let b = was c told in let n = goes b.0 b.1 in λ x left. n.durable x left ∙ same_Some n.file c (sym n.told ∙ told);
}

-- a disk that tells behind a call told before it
pub told_before : (old new : Option (List ℕ)) (c : List ℕ) → is_some new ≡ is_some old → new ≡ Some c → (b : List ℕ) × (old ≡ Some b)
told_before None new c tells told = absurd (true≢false (ap (λ (o : Option (List ℕ)). is_some o) (sym told) ∙ tells))
told_before (Some b) new c tells told = (b, refl)

-- with a slot more the file is at rest again
pub rests_more : (old new : Option (List ℕ)) (image : List ℕ → Type 0) (used used2 : ℕ) (more : List ℕ → List (List ℕ)) → used2 ≡ used + 1 → ((b : List ℕ) → old ≡ Some b → HoldsSlots new image (used + 1) (more b))
    → is_some new ≡ is_some old → (c : List ℕ) → new ≡ Some c → IsAtRest used2 c
rests_more old new image used used2 more next goes tells c told =
    let b = told_before old new c tells told in
    let n = goes b.0 b.1 in
    subst (λ (k : ℕ). IsAtRest k c) (sym next) (subst (IsAtRest (used + 1)) (same_Some n.file c (sym n.told ∙ told)) n.rest)
