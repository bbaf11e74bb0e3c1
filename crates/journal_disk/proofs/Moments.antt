-- Runs of calls on a disk: how they begin, go on and are put together.
use Rattle.std.proofs.Common.{◌≡◌, inl, inr, ⊎_elim, ℕ, List, [], Option, Some, None, unwrap_or, refl, arith, ap}
use Rattle.journal_disk.specs.Images.{TimePasses, CrashesLeave, IsTorn, written_at, written_where_told}

module _ {D : Type 0} (moment : D → ℕ) (image_since : D → ℕ → List ℕ → Type 0) where
  -- a run without a call
  pub started : (old : D) (P : List ℕ → Type 0) → ((c : List ℕ) → image_since old (moment old) c → P c) → CrashesLeave moment image_since old old P
  started old P here = record { forward = omega arith; each = here; longer = λ t c le left. inl left }

  -- a run and one call more, after which each image has P
  pub goes_on : (old mid new : D) (P image : List ℕ → Type 0) → CrashesLeave moment image_since old mid P → TimePasses (moment mid) (moment new) (image_since mid) (image_since new) image
      → ((c : List ℕ) → image c → P c) → CrashesLeave moment image_since old new P
  goes_on old mid new P image so_far time here = record {
    forward = omega (arith, so_far.forward, time.forward);
    each = λ c left. ⊎_elim (so_far.each c) (here c) (time.known (moment old) c so_far.forward left);
    longer = λ t c le left. ⊎_elim (so_far.longer t c le) (λ now. inr (here c now)) (time.known t c (omega (arith, le, so_far.forward)) left);
  }

  -- less may be said of what crashes leave
  pub weaker : (old new : D) (P Q : List ℕ → Type 0) → ((c : List ℕ) → P c → Q c) → CrashesLeave moment image_since old new P → CrashesLeave moment image_since old new Q
  weaker old new P Q more run = record {
    forward = run.forward;
    each = λ c left. more c (run.each c left);
    longer = λ t c le left. ⊎_elim (λ was. inl was) (λ p. inr (more c p)) (run.longer t c le left);
  }

  -- a run after a run
  pub then_on : (old mid new : D) (P : List ℕ → Type 0) → CrashesLeave moment image_since old mid P → CrashesLeave moment image_since mid new P → CrashesLeave moment image_since old new P
  then_on old mid new P one two = record {
    forward = omega (arith, one.forward, two.forward);
    each = λ c left. ⊎_elim (one.each c) (λ p. p) (two.longer (moment old) c one.forward left);
    longer = λ t c le left. ⊎_elim (one.longer t c le) (λ p. inr p) (two.longer t c (omega (arith, le, one.forward)) left);
  }

-- a write that never came
pub torn_not : (at n : ℕ) (b : List ℕ) → IsTorn at n b b
torn_not at n b = record { front = refl; behind = refl; no_shorter = omega arith; no_longer = omega arith }

some_not_none : (b : List ℕ) → None ≡ Some b → ⊥
some_not_none b e = absurd (cc)

-- what is told after a write was told before it
pub put_told : (at : ℕ) (piece : List ℕ) (o : Option (List ℕ)) (new : List ℕ) → written_where_told at piece o ≡ Some new → (b : List ℕ) × (o ≡ Some b) × (written_at at piece b ≡ new)
put_told at piece None new e = absurd (some_not_none new e)
put_told at piece (Some b) new e = (b, refl, ap (λ (o : Option (List ℕ)). unwrap_or o []) e)
