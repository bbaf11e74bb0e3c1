-- Lists: what holds of all elements, by recursion and at each place.
use Rattle.std.proofs.Common.{◌≡◌, ℕ, ◌<◌, zero, suc, List, [], ◌∷◌, ◌++◌, length, map, refl, arith, slice_index_or, get_or}
use Rattle.std.specs.List.{AllByRecursion}

pub at_place : {A : Type 0} (P : A → Type 0) (xs : List A) → AllByRecursion P xs → (k : ℕ) (d : A) → k < length xs → P (slice_index_or xs k d)
at_place P [] h k d low = absurd (omega (arith, low))
at_place P (x ∷ xs) h zero d low = h.0
at_place P (x ∷ xs) h (suc k) d low = at_place P xs h.1 k d (omega (arith, low))

pub each_place : {A : Type 0} (P : A → Type 0) (xs : List A) → ((k : ℕ) (d : A) → k < length xs → P (slice_index_or xs k d)) → AllByRecursion P xs
each_place P [] h = tt
each_place P (x ∷ xs) h = (h 0 x (omega arith), each_place P xs (λ k d low. h (suc k) d (omega (arith, low))))

pub all_front : {A : Type 0} (P : A → Type 0) (xs : List A) (x : A) → AllByRecursion P (xs ++ x ∷ []) → AllByRecursion P xs
all_front P [] x h = tt
all_front P (y ∷ xs) x h = (h.0, all_front P xs x h.1)

pub all_last : {A : Type 0} (P : A → Type 0) (xs : List A) (x : A) → AllByRecursion P (xs ++ x ∷ []) → P x
all_last P [] x h = h.0
all_last P (y ∷ xs) x h = all_last P xs x h.1

pub all_more : {A : Type 0} (P : A → Type 0) (xs : List A) (x : A) → AllByRecursion P xs → P x → AllByRecursion P (xs ++ x ∷ [])
all_more P [] x h p = (p, tt)
all_more P (y ∷ xs) x h p = (h.0, all_more P xs x h.1 p)

-- two lists of one length, place by place
abbrev pub Beside : {A : Type 0} → (A → A → Type 0) → List A → List A → Type 0
Beside R [] [] = Unit {0}
Beside R (x ∷ xs) (y ∷ ys) = R x y × Beside R xs ys
Beside R _ _ = ⊥

pub beside_places : {A : Type 0} (R : A → A → Type 0) (xs ys : List A) → length ys ≡ length xs → ((k : ℕ) (d : A) → k < length xs → R (slice_index_or xs k d) (slice_index_or ys k d)) → Beside R xs ys
beside_places R [] [] n h = tt
beside_places R [] (y ∷ ys) n h = absurd (omega (arith, n))
beside_places R (x ∷ xs) [] n h = absurd (omega (arith, n))
beside_places R (x ∷ xs) (y ∷ ys) n h = (h 0 x (omega arith), beside_places R xs ys (omega (arith, n)) (λ k d low. h (suc k) d (omega (arith, low))))

pub map_at : {A B : Type 0} (f : A → B) (xs : List A) (k : ℕ) (d : A) (e : B) → k < length xs → get_or (map f xs) k e ≡ f (get_or xs k d)
map_at f [] k d e low = absurd (omega (arith, low))
map_at f (x ∷ xs) zero d e low = refl
map_at f (x ∷ xs) (suc k) d e low = map_at f xs k d e (omega (arith, low))
