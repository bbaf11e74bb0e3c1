-- What stands in a list that is held for each type, at the number of a type.
use Rattle.std.proofs.Common.{◌≡◌, ◌≤◌, ◌<◌, ℕ, zero, suc, List, [], ◌∷◌, map, length, get_or, refl, sym, ap, ◌∙◌, arith}
use Rattle.std.specs.Prelude.{Vec, slice_get}
use Rattle.std.specs.Global.{Global}
use Rattle.schema_facts.specs.Facts.{KnownTree, numbers_in}
use Rattle.schema_facts.specs.Making.{list_of}

abbrev in_list : {A : Type 0} → List (List A) → ℕ → List A
in_list [] n = []
in_list (l ∷ ls) zero = l
in_list (l ∷ ls) (suc n) = in_list ls n

in_lists : (lists : List (Vec ℕ Global)) (n : ℕ) (v : Vec ℕ Global) → n < length lists → v ≡ get_or lists n v → in_list (map numbers_in lists) n ≡ v.items
in_lists [] n v less is = absurd (omega (arith, less))
in_lists (w ∷ lists) zero v less is = ap numbers_in (sym is)
in_lists (w ∷ lists) (suc n) v less is = in_lists lists n v (omega (arith, less)) is

past_lists : (lists : List (Vec ℕ Global)) (n : ℕ) → length lists ≤ n → in_list (map numbers_in lists) n ≡ []
past_lists [] n most = refl
past_lists (w ∷ lists) zero most = absurd (omega (arith, most))
past_lists (w ∷ lists) (suc n) most = past_lists lists n (omega (arith, most))

module _ (of : KnownTree → List ℕ) (lists : List (Vec ℕ Global)) where
  in_types : (types : List KnownTree) (n : ℕ) → in_list (map of types) n ≡ list_of of (slice_get types n)
  in_types [] n = refl
  in_types (t ∷ types) zero = refl
  in_types (t ∷ types) (suc n) = in_types types n

  pub listed_there : (types : List KnownTree) (n : ℕ) (v : Vec ℕ Global) → map numbers_in lists ≡ map of types → n < length lists → v ≡ get_or lists n v
      → v.items ≡ list_of of (slice_get types n)
  listed_there types n v knows less is = sym (in_lists lists n v less is) ∙ ap (λ l. in_list l n) knows ∙ in_types types n

  pub listed_past : (types : List KnownTree) (n : ℕ) → map numbers_in lists ≡ map of types → length lists ≤ n → [] ≡ list_of of (slice_get types n)
  listed_past types n knows most = sym (past_lists lists n most) ∙ ap (λ l. in_list l n) knows ∙ in_types types n
