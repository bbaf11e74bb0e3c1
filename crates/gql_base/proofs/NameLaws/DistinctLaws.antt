-- Names are distinct exactly where none is equal to one after it.
use Rattle.std.proofs.Common.{ℕ, ◌≡◌, true, false, List, [], ◌∷◌, inl, inr, refl}
use Rattle.std.specs.Prelude.{not}
use Rattle.std.specs.List.{list_any, AllByRecursion, IsDistinct}
use Rattle.std.specs.Str.{bytes_eq}
use Rattle.std.proofs.lemmas.Bool.{cases_Bool, and_parts, not-true}
use Rattle.gql_base.specs.names.Names.{are_distinct}

none_same : (name : List ℕ) (names : List (List ℕ)) → list_any (bytes_eq name) names ≡ false → AllByRecursion (λ other. bytes_eq name other ≡ false) names
none_same name [] e = tt
none_same name (other ∷ names) e = elim (cases_Bool (bytes_eq name other)) [
  | inl t ↦ absurd (let bad = rw t at e in cc)
  | inr f ↦ (f, none_same name names (rw f at e))
]

any_same : (name : List ℕ) (names : List (List ℕ)) → AllByRecursion (λ other. bytes_eq name other ≡ false) names → list_any (bytes_eq name) names ≡ false
any_same name [] all = refl
any_same name (other ∷ names) all = rw (all.0) (any_same name names all.1)

pub distinct_once : (names : List (List ℕ)) → are_distinct names ≡ true → IsDistinct bytes_eq names
unfolding IsDistinct
distinct_once [] e = tt
distinct_once (name ∷ names) e = let p = and_parts (not (list_any (bytes_eq name) names)) (are_distinct names) e in (none_same name names (not-true _ p.0), distinct_once names p.1)

pub once_distinct : (names : List (List ℕ)) → IsDistinct bytes_eq names → are_distinct names ≡ true
unfolding IsDistinct
once_distinct [] is = refl
once_distinct (name ∷ names) is = rw (any_same name names is.0) (once_distinct names is.1)
