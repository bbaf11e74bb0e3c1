-- What is so of each element of a list.
use Rattle.std.proofs.Common.{◌≡◌, ⊎_elim, ℕ, ◌+◌, ◌<◌, List, [], ◌∷◌, ◌++◌, map, drop, length, get_or, nat_eq, true, false, Bool, ◌||◌, ◌⊎◌, inl, inr, sym, subst}
use Rattle.std.specs.List.{list_any}
use Rattle.std.proofs.lemmas.Bool.{eqb-true}
use Rattle.gql_base.proofs.Lists.{at_front}
use Rattle.collected_fields.specs.Steps.{Each}

module _ {A : Type 0} (P : A → Type 0) where
  pub each_apart : (xs ys : List A) → Each P (xs ++ ys) → Each P xs × Each P ys
  each_apart [] ys h = (tt, h)
  each_apart (x ∷ xs) ys h = let rest = each_apart xs ys h.1 in ((h.0, rest.0), rest.1)

  pub each_both : (xs ys : List A) → Each P xs → Each P ys → Each P (xs ++ ys)
  each_both [] ys h k = k
  each_both (x ∷ xs) ys h k = (h.0, each_both xs ys h.1 k)

  -- one more from the front of what is left
  pub each_next : {B : Type 0} (f : B → A) (xs : List B) (i : ℕ) (x : B) → i < length xs → x ≡ get_or xs i x → P (f x) → Each P (map f (drop (i + 1) xs)) → Each P (map f (drop i xs))
  each_next {B = B} f xs i x less is here rest = subst (λ (ys : List B). Each P (map f ys)) (sym (at_front xs i x less is)) (here, rest)

either_of : (a b : Bool) → (a || b) ≡ true → (a ≡ true) ⊎ (b ≡ true)
either_of true b h = inl h
either_of false b h = inr h

-- one of them
pub each_has : (P : ℕ → Type 0) (n : ℕ) (ns : List ℕ) → list_any (nat_eq n) ns ≡ true → Each P ns → P n
each_has P n [] h each = absurd (never h)
  where
    never : false ≡ true → ⊥
    never e = cc
each_has P n (m ∷ ns) h each = ⊎_elim
    (λ (here : nat_eq n m ≡ true). subst P (sym (eqb-true n m here)) each.0)
    (λ (later : list_any (nat_eq n) ns ≡ true). each_has P n ns later each.1)
    (either_of (nat_eq n m) (list_any (nat_eq n) ns) h)
