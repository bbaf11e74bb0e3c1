-- Things that are found by their names, and sums over things whose names are distinct.
use Rattle.std.proofs.Common.{◌≡◌, ◌+◌, ℕ, zero, suc, Bool, true, false, not, ◌||◌, bytes_eq, List, [], ◌∷◌, map, drop, find, All, inl, inr, None, Some, refl, sym, ap, ap₂, ◌∙◌, subst, arith, cond}
use Rattle.std.specs.Prelude.{slice_get}
use Rattle.std.specs.List.{list_any, sum_by, AllByRecursion}
use Rattle.std.specs.Cmp.Lexicographic.{nat_list_eq_equiv}
use Rattle.std.proofs.lemmas.Bool.{cases_Bool, and_parts, not-true}
use Rattle.std.proofs.lemmas.List.Elements.{All-head, All-tail}
use Rattle.std.proofs.lemmas.List.Sums.{sum_by-cons}
use Rattle.std.proofs.lemmas.Option.{none-some, same_Some, slice_get_within, get_or_from_slice_get}
use Rattle.std.proofs.lemmas.Slice.Eq.{bytes_eq-Decides}
use Rattle.gql_base.specs.names.Names.{are_distinct, first_of_name}

-- ---- what is found

pub found_any : {A : Type 0} (p : A → Bool) (xs : List A) (x : A) → find p xs ≡ Some x → list_any p xs ≡ true
found_any p [] x found = absurd (none-some x found)
found_any p (y ∷ xs) x found = elim (cases_Bool (p y)) [
  | inl t ↦ ap (λ b. b || list_any p xs) t
  | inr t ↦ ap (λ b. b || list_any p xs) t ∙ found_any p xs x (sym (ap (λ b. cond b (Some y) (find p xs)) t) ∙ found)
]

pub found_right : {A : Type 0} (P : A → Type 0) (p : A → Bool) (xs : List A) (x : A) → find p xs ≡ Some x → All P xs → P x
found_right P p [] x found right = absurd (none-some x found)
found_right P p (y ∷ xs) x found right = elim (cases_Bool (p y)) [
  | inl t ↦ subst P (same_Some y x (sym (ap (λ b. cond b (Some y) (find p xs)) t) ∙ found)) (All-head P y xs right)
  | inr t ↦ found_right P p xs x (sym (ap (λ b. cond b (Some y) (find p xs)) t) ∙ found) (All-tail P y xs right)
]

pub right_at : {A : Type 0} (P : A → Type 0) (xs : List A) (at : ℕ) (x : A) → slice_get xs at ≡ Some x → All P xs → P x
right_at P xs at x there right = subst P (get_or_from_slice_get xs at x x there) (right at x (slice_get_within xs at x there))

pub none_found : {A : Type 0} (p : A → Bool) (xs : List A) → find p xs ≡ None → list_any p xs ≡ false
none_found p [] none = refl
none_found p (y ∷ xs) none = elim (cases_Bool (p y)) [
  | inl t ↦ absurd (none-some y (sym none ∙ ap (λ b. cond b (Some y) (find p xs)) t))
  | inr t ↦ ap (λ b. b || list_any p xs) t ∙ none_found p xs (sym (ap (λ b. cond b (Some y) (find p xs)) t) ∙ none)
]

-- ---- names that are distinct

module _ {A : Type 0} (name : A → List ℕ) where
  -- It is the first of its name.
  abbrev pub IsFirst : List A → A → Type 0
  IsFirst xs x = first_of_name name xs (name x) ≡ Some x

  first_in_front : (x : A) (xs : List A) → IsFirst (x ∷ xs) x
  first_in_front x xs = ap (λ b. cond b (Some x) (first_of_name name xs (name x))) ((bytes_eq-Decides (name x) (name x)).1 refl)

  first_behind : (x : A) (xs ys : List A) → list_any (bytes_eq (name x)) (map name ys) ≡ false → AllByRecursion (IsFirst xs) ys → AllByRecursion (IsFirst (x ∷ xs)) ys
  first_behind x xs [] none all = tt
  first_behind x xs (y ∷ ys) none all = elim (cases_Bool (bytes_eq (name x) (name y))) [
    | inl t ↦ absurd (let bad = rw t at none in cc)
    | inr t ↦ (ap (λ b. cond b (Some x) (first_of_name name xs (name y))) t ∙ all.0, first_behind x xs ys (rw t at none) all.1)
  ]

  pub all_first : (xs : List A) → are_distinct (map name xs) ≡ true → AllByRecursion (IsFirst xs) xs
  all_first [] once = tt
  all_first (x ∷ xs) once =
      let parts = and_parts (not (list_any (bytes_eq (name x)) (map name xs))) (are_distinct (map name xs)) once in
      (first_in_front x xs, first_behind x xs xs (not-true _ parts.0) (all_first xs parts.1))

pub last_distinct : {A : Type 0} (name : A → List ℕ) (n : ℕ) (xs : List A) → are_distinct (map name xs) ≡ true → are_distinct (map name (drop n xs)) ≡ true
last_distinct name zero xs once = once
last_distinct name (suc n) [] once = refl
last_distinct name (suc n) (x ∷ xs) once = last_distinct name n xs (and_parts (not (list_any (bytes_eq (name x)) (map name xs))) (are_distinct (map name xs)) once).1

-- ---- sums

pub sums_alike : {A : Type 0} (f g : A → ℕ) (xs : List A) → ((x : A) → f x ≡ g x) → sum_by f xs ≡ sum_by g xs
sums_alike f g [] same = refl
sums_alike f g (x ∷ xs) same = sum_by-cons f x xs ∙ (ap₂ (λ a b. a + b) (same x) (sums_alike f g xs same) ∙ sym (sum_by-cons g x xs))

module _ {A : Type 0} (name : A → List ℕ) (f g : A → ℕ) (n : List ℕ) (same : (x : A) → bytes_eq (name x) n ≡ false → f x ≡ g x) where
  -- none of these has the name
  rest_alike : (xs : List A) → list_any (bytes_eq n) (map name xs) ≡ false → sum_by f xs ≡ sum_by g xs
  rest_alike [] none = refl
  rest_alike (x ∷ xs) none = elim (cases_Bool (bytes_eq n (name x))) [
    | inl t ↦ absurd (let bad = rw t at none in cc)
    | inr t ↦ sum_by-cons f x xs ∙ (ap₂ (λ a b. a + b) (same x (nat_list_eq_equiv.symm (name x) n ∙ t)) (rest_alike xs (rw t at none)) ∙ sym (sum_by-cons g x xs))
  ]

  -- Two sums that differ at the one thing of this name alone differ by it.
  pub one_differs : (xs : List A) (it : A) → are_distinct (map name xs) ≡ true → first_of_name name xs n ≡ Some it → sum_by g xs + f it ≡ sum_by f xs + g it
  one_differs [] it once found = absurd (none-some it found)
  one_differs (x ∷ xs) it once found =
      let p = and_parts (not (list_any (bytes_eq (name x)) (map name xs))) (are_distinct (map name xs)) once in
      let a = sum_by-cons f x xs in
      let b = sum_by-cons g x xs in
      elim (cases_Bool (bytes_eq (name x) n)) [
        | inl t ↦
            let is : x ≡ it = same_Some x it (sym (ap (λ c. cond c (Some x) (first_of_name name xs n)) t) ∙ found) in
            let r = rest_alike xs (subst (λ m. list_any (bytes_eq m) (map name xs) ≡ false) ((bytes_eq-Decides (name x) n).0 t) (not-true _ p.0)) in
            let c = ap f is in
            let d = ap g is in
            omega (arith, a, b, c, d, r)
        | inr t ↦
            let h = one_differs xs it p.1 (sym (ap (λ c. cond c (Some x) (first_of_name name xs n)) t) ∙ found) in
            let c = same x t in
            omega (arith, a, b, c, h)
      ]
