-- What one call more does to what is read and to the images.
use Rattle.std.proofs.Common.{◌≡◌, ◌⊎◌, ⊎_elim, inl, inr, ℕ, zero, suc, ◌+◌, ◌-◌, ◌≤◌, ◌<◌, min, List, [], ◌∷◌, ◌++◌, length, take, drop, refl, sym, ◌∙◌, ap, subst, arith, append_assoc, length-append}
use Rattle.std.proofs.lemmas.List.{take_at, drop_at, take_all, drop_all, length-take, length-drop}
use Rattle.std.proofs.lemmas.Bool.{cases_lt}
use Rattle.journal_disk.specs.Images.{written_at, IsTorn, StepsBack, TimePasses}
use Rattle.journal_disk.specs.Calls.{Call, wrote, synced, bytes_after, image_after, image_after_all, image_from}

pub image_wrote : (bytes : List ℕ) (base : List ℕ → Type 0) (calls : List Call) (at : ℕ) (piece c : List ℕ) → image_after bytes base (calls ++ wrote at piece ∷ []) c → (d : List ℕ) × image_after bytes base calls d × (IsTorn at (length piece) d c ⊎ (c ≡ written_at at piece d))
unfolding image_after
image_wrote bytes base [] at piece c left = left
image_wrote bytes base (wrote at2 piece2 ∷ calls) at piece c left = image_wrote (written_at at2 piece2 bytes) (λ x. (d : List ℕ) × base d × (IsTorn at2 (length piece2) d x ⊎ (x ≡ written_at at2 piece2 d))) calls at piece c left
image_wrote bytes base (synced ∷ calls) at piece c left = image_wrote bytes (λ x. x ≡ bytes) calls at piece c left

pub image_synced : (bytes : List ℕ) (base : List ℕ → Type 0) (calls : List Call) (c : List ℕ) → image_after bytes base (calls ++ synced ∷ []) c → c ≡ bytes_after bytes calls
unfolding image_after bytes_after
image_synced bytes base [] c left = left
image_synced bytes base (wrote at2 piece2 ∷ calls) c left = image_synced (written_at at2 piece2 bytes) (λ x. (d : List ℕ) × base d × (IsTorn at2 (length piece2) d x ⊎ (x ≡ written_at at2 piece2 d))) calls c left
image_synced bytes base (synced ∷ calls) c left = image_synced bytes (λ x. x ≡ bytes) calls c left

take_push : (k : ℕ) (calls : List Call) (x : Call) → k ≤ length calls → take k (calls ++ x ∷ []) ≡ take k calls
take_push zero calls x le = refl
take_push (suc k) [] x le = absurd (omega (arith, le))
take_push (suc k) (y ∷ calls) x le = ap (λ (l : List Call). y ∷ l) (take_push k calls x (omega (arith, le)))

-- one call more is recorded
pub elapses : (first : List ℕ) (calls : List Call) (x : Call) → TimePasses (length calls) (length (calls ++ x ∷ [])) (image_from first calls) (image_from first (calls ++ x ∷ [])) (image_after_all first (calls ++ x ∷ []))
elapses first calls x = record {
  forward = omega (arith, length-append calls (x ∷ []));
  known = λ t c le left. ⊎_elim
      (λ now. inr now)
      (λ before. ⊎_elim
      (λ (old : before.0 < length calls). inl (inr (before.0, before.1, old, subst (λ (l : List Call). image_after_all first l c) (take_push before.0 calls x (omega (arith, old))) before.3)))
      (λ (last : length calls ≤ before.0). inl (inl (subst (λ (l : List Call). image_after_all first l c)
      (take_push before.0 calls x (omega (arith, before.2, length-append calls (x ∷ []))) ∙ take_all before.0 calls last) before.3)))
      (cases_lt before.0 (length calls)))
      left;
  stays = λ t c le left. ⊎_elim
      (λ now. inr (length calls, le, omega (arith, length-append calls (x ∷ [])), subst (λ (l : List Call). image_after_all first l c) (sym (take_push (length calls) calls x (omega arith) ∙ take_all (length calls) calls (omega arith))) now))
      (λ before. inr (before.0, before.1, omega (arith, before.2, length-append calls (x ∷ [])), subst (λ (l : List Call). image_after_all first l c) (sym (take_push before.0 calls x (omega (arith, before.2)))) before.3))
      left;
}

module _ (at : ℕ) (piece d : List ℕ) where
  abbrev tail : List ℕ
  tail = drop (at + length piece) d

  long : length (written_at at piece d) ≡ min at (length d) + length piece + (length d - (at + length piece))
  long = omega (arith, length-append (take at d ++ piece) tail, length-append (take at d) piece, length-take at d, length-drop (at + length piece) d)

  front : take (min at (length d)) (written_at at piece d) ≡ take (min at (length d)) d
  front = ap (λ (l : List ℕ). take (min at (length d)) l) (append_assoc (take at d) piece tail)
      ∙ take_at (take at d) (piece ++ tail) (min at (length d)) (length-take at d)
      ∙ ⊎_elim
      (λ (inside : at < length d). ap (λ (n : ℕ). take n d) {x = at} {y = min at (length d)} (omega (arith, inside)))
      (λ (past : length d ≤ at). take_all at d past ∙ sym (take_all (min at (length d)) d (omega (arith, past))))
      (cases_lt at (length d))

  back : drop (at + length piece) (written_at at piece d) ≡ drop (at + length piece) d
  back = ⊎_elim
      (λ (inside : at < length d). drop_at (take at d ++ piece) tail (at + length piece) (omega (arith, length-append (take at d) piece, length-take at d, inside)))
      (λ (past : length d ≤ at). drop_all (at + length piece) (written_at at piece d) (omega (arith, long, past)) ∙ sym (drop_all (at + length piece) d (omega (arith, past))))
      (cases_lt at (length d))

  pub torn_put : IsTorn at (length piece) d (written_at at piece d)
  torn_put = record { front = front; behind = back; no_shorter = omega (arith, long); no_longer = omega (arith, long) }

-- each image after a write is an image before it that is torn there
pub follows_write : (first : List ℕ) (calls : List Call) (at : ℕ) (piece : List ℕ) → StepsBack (IsTorn at (length piece)) (image_after_all first calls) (image_after_all first (calls ++ wrote at piece ∷ []))
follows_write first calls at piece c left =
    let was = image_wrote first (λ x. x ≡ first) calls at piece c left in
    (was.0, was.1, ⊎_elim (λ torn. torn) (λ whole. subst (IsTorn at (length piece) was.0) (sym whole) (torn_put at piece was.0)) was.2)

pub bytes_wrote : (bytes : List ℕ) (calls : List Call) (at : ℕ) (piece : List ℕ) → bytes_after bytes (calls ++ wrote at piece ∷ []) ≡ written_at at piece (bytes_after bytes calls)
unfolding bytes_after
bytes_wrote bytes [] at piece = refl
bytes_wrote bytes (wrote at2 piece2 ∷ calls) at piece = bytes_wrote (written_at at2 piece2 bytes) calls at piece
bytes_wrote bytes (synced ∷ calls) at piece = bytes_wrote bytes calls at piece

pub bytes_synced : (bytes : List ℕ) (calls : List Call) → bytes_after bytes (calls ++ synced ∷ []) ≡ bytes_after bytes calls
unfolding bytes_after
bytes_synced bytes [] = refl
bytes_synced bytes (wrote at2 piece2 ∷ calls) = bytes_synced (written_at at2 piece2 bytes) calls
bytes_synced bytes (synced ∷ calls) = bytes_synced bytes calls

-- where nothing was recorded, nothing has changed
pub elapses_not : (first : List ℕ) (calls : List Call) → TimePasses (length calls) (length calls) (image_from first calls) (image_from first calls) (image_after_all first calls)
elapses_not first calls = record { forward = omega arith; known = λ t c le left. inl left; stays = λ t c le left. left }
