-- What a test that finds nothing in a list says of the things of the list, and things that are found in one.
use Rattle.std.proofs.Common.{◌≡◌, ◌⊎◌, ◌+◌, ◌<◌, ℕ, zero, suc, Bool, true, false, List, [], ◌∷◌, find, get_or, length, Option, None, Some, inl, inr, refl, sym, ap, subst, ◌∙◌, arith}
use Rattle.std.specs.Prelude.{nat_eq, ◌&&◌, cond}
use Rattle.std.specs.List.{list_any, list_all, position_from, range_with_len}
use Rattle.std.proofs.lemmas.Bool.{cases_Bool, eqb-true}
use Rattle.std.proofs.lemmas.Option.{none-some, same_Some}
use Rattle.schema_rules.specs.First.{first_of}
use Rattle.schema_rules.proofs.FirstFaults.{neither}

-- ---- nothing is found

-- at a place, where nothing is found at what stands elsewhere either
pub none_at : {A F : Type 0} (test : A → Option F) (xs : List A) (d : A) (n : ℕ) → test d ≡ None → first_of test xs ≡ None → test (get_or xs n d) ≡ None
none_at test [] d n other none = other
none_at test (x ∷ xs) d zero other none = (neither (test x) (first_of test xs) none).0
none_at test (x ∷ xs) d (suc n) other none = none_at test xs d n other ((neither (test x) (first_of test xs) none).1)

pub never : (n : ℕ) → n < 0 → ⊥
never n h = omega arith

-- at a number among those from another on
pub none_from : {F : Type 0} (test : ℕ → Option F) (first count n : ℕ) → n < count → first_of test (range_with_len first count) ≡ None → test (first + n) ≡ None
none_from test first zero n within none = absurd (never n within)
none_from test first (suc count) zero within none =
    let e : first + 0 ≡ first = omega arith in
    ap test e ∙ (neither (test first) (first_of test (range_with_len (first + 1) count)) none).0
none_from test first (suc count) (suc n) within none =
    let e : first + suc n ≡ (first + 1) + n = omega arith in
    let h : n < count = omega arith in
    ap test e ∙ none_from test (first + 1) count n h ((neither (test first) (first_of test (range_with_len (first + 1) count)) none).1)

-- at a number that is among some
pub none_among : {F : Type 0} (test : ℕ → Option F) (numbers : List ℕ) (n : ℕ) → list_any (nat_eq n) numbers ≡ true → first_of test numbers ≡ None → test n ≡ None
none_among test [] n among none = absurd (cc)
none_among test (m ∷ numbers) n among none = elim (cases_Bool (nat_eq n m)) [
  | inl same ↦ ap test (eqb-true n m same) ∙ (neither (test m) (first_of test numbers) none).0
  | inr other ↦
      let flip : list_any (nat_eq n) (m ∷ numbers) ≡ list_any (nat_eq n) numbers = rw other refl in
      none_among test numbers n (sym flip ∙ among) ((neither (test m) (first_of test numbers) none).1)
]

-- ---- what is found

one_found : {A : Type 0} (P : A → Type 0) (y x : A) (rest : Option A) (b : Bool) → cond b (Some y) rest ≡ Some x → (b ≡ true → P y) → (rest ≡ Some x → P x) → P x
one_found P y x rest true e here behind = subst P (same_Some y x e) (here refl)
one_found P y x rest false e here behind = behind e

pub found_passes : {A : Type 0} (p : A → Bool) (xs : List A) (x : A) → find p xs ≡ Some x → p x ≡ true
found_passes p [] x found = absurd (none-some x found)
found_passes p (y ∷ xs) x found = one_found (λ z. p z ≡ true) y x (find p xs) (p y) found (λ passes. passes) (found_passes p xs x)

pub none_found : {A F : Type 0} (test : A → Option F) (p : A → Bool) (xs : List A) (x : A) → find p xs ≡ Some x → first_of test xs ≡ None → test x ≡ None
none_found test p [] x found none = absurd (none-some x found)
none_found test p (y ∷ xs) x found none =
    one_found (λ z. test z ≡ None) y x (find p xs) (p y) found (λ _. (neither (test y) (first_of test xs) none).0) (λ later. none_found test p xs x later ((neither (test y) (first_of test xs) none).1))

-- both of two tests pass
pub both : (a b : Bool) → a && b ≡ true → (a ≡ true) × (b ≡ true)
both true b e = (refl, e)
both false b e = absurd (cc)

pub all_found : {A : Type 0} (each p : A → Bool) (xs : List A) (x : A) → find p xs ≡ Some x → list_all each xs ≡ true → each x ≡ true
all_found each p [] x found all = absurd (none-some x found)
all_found each p (y ∷ xs) x found all =
    let parts = both (each y) (list_all each xs) all in
    one_found (λ z. each z ≡ true) y x (find p xs) (p y) found (λ _. parts.0) (λ later. all_found each p xs x later parts.1)

passed_over : {A : Type 0} (y : A) (rest : Option A) (b : Bool) → cond b (Some y) rest ≡ None → (b ≡ false) × (rest ≡ None)
passed_over y rest true e = absurd (cc)
passed_over y rest false e = (refl, e)

-- where two tests find nothing, a third finds nothing that passes where neither does
pub finds_less : {A : Type 0} (p r q : A → Bool) → ((x : A) → p x ≡ false → r x ≡ false → q x ≡ false) → (xs : List A) → find p xs ≡ None → find r xs ≡ None → find q xs ≡ None
finds_less p r q less [] none other = refl
finds_less p r q less (y ∷ xs) none other =
    let one = passed_over y (find p xs) (p y) none in
    let two = passed_over y (find r xs) (r y) other in
    ap (λ b. cond b (Some y) (find q xs)) (less y one.0 two.0) ∙ finds_less p r q less xs one.1 two.1

-- ---- places

-- the first thing that passes, and its place
pub record Standing {A : Type 0} (test : A → Bool) (n : ℕ) (xs : List A) : Type 0 where
  pub place : ℕ
  pub item : A
  pub placed : position_from test n xs ≡ Some (n + place)
  pub found : find test xs ≡ Some item
  pub within : place < length xs
  pub there : get_or xs place item ≡ item

abbrev pub Missing : {A : Type 0} → (A → Bool) → ℕ → List A → Type 0
Missing test n xs = (position_from test n xs ≡ None) × (find test xs ≡ None)

pub standing : {A : Type 0} (test : A → Bool) (n : ℕ) (xs : List A) → Missing test n xs ⊎ Standing test n xs
standing test n [] = inl (refl, refl)
standing test n (x ∷ xs) = elim (cases_Bool (test x)) [
  | inl passes ↦
      let e : n ≡ n + 0 = omega arith in
      inr record { place = 0; item = x; placed = rw passes (ap Some e); found = rw passes refl; within = omega arith; there = refl }
  | inr fails ↦ elim (standing test (n + 1) xs) [
    | inl none ↦ inl (rw fails none.0, rw fails none.1)
    | inr later ↦
        let e : (n + 1) + later.place ≡ n + suc later.place = omega arith in
        inr record { place = suc later.place; item = later.item; placed = rw fails (later.placed ∙ ap Some e); found = rw fails later.found; within = omega (arith, later.within); there = later.there }
  ]
]
