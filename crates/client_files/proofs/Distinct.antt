-- Keys that stand once.
use Rattle.std.proofs.Common.{◌≡◌, ℕ, List, [], ◌∷◌, ◌++◌, refl, sym, ap, ◌∙◌, Bool, true, false}
use Rattle.std.specs.Prelude.{◌&&◌, ◌||◌, not}
use Rattle.std.specs.List.{list_any}
use Rattle.std.specs.Str.{bytes_eq}
use Rattle.std.specs.Cmp.Lexicographic.{nat_list_eq_equiv}
use Rattle.std.proofs.lemmas.Bool.{and_parts}
use Rattle.std.proofs.lemmas.List.Folds.{list_any-append}
use Rattle.gql_base.specs.names.Names.{are_distinct}

-- the same tests in another order
ordered : (later same apart known : Bool) → (not (later || (same || false)) && (apart && not known)) ≡ ((not later && apart) && not (same || known))
ordered true same apart known = refl
ordered false true true known = refl
ordered false true false known = refl
ordered false false true known = refl
ordered false false false known = refl

-- with one more they stand once exactly where that one is new
pub distinct_push : (names : List (List ℕ)) (name : List ℕ) → are_distinct (names ++ name ∷ []) ≡ (are_distinct names && not (list_any (bytes_eq name) names))
distinct_push [] name = refl
distinct_push (other ∷ names) name =
    ap (λ b. not b && are_distinct (names ++ name ∷ [])) (list_any-append (bytes_eq other) names (name ∷ []))
    ∙ (ap (λ b. not (list_any (bytes_eq other) names || (bytes_eq other name || false)) && b) (distinct_push names name)
    ∙ (ap (λ b. not (list_any (bytes_eq other) names || (b || false)) && (are_distinct names && not (list_any (bytes_eq name) names))) (nat_list_eq_equiv.symm other name)
    ∙ ordered (list_any (bytes_eq other) names) (bytes_eq name other) (are_distinct names) (list_any (bytes_eq name) names)))

not_either : (a b : Bool) → not (a || b) ≡ true → not a ≡ true
not_either true b h = h
not_either false b h = refl

-- so do the first of them
pub distinct_front : (front left : List (List ℕ)) → are_distinct (front ++ left) ≡ true → are_distinct front ≡ true
distinct_front [] left h = refl
distinct_front (name ∷ names) left h =
    let parts = and_parts (not (list_any (bytes_eq name) (names ++ left))) (are_distinct (names ++ left)) h in
    let new = not_either (list_any (bytes_eq name) names) (list_any (bytes_eq name) left) (sym (ap not (list_any-append (bytes_eq name) names left)) ∙ parts.0) in
    rw (new, distinct_front names left parts.1) refl

pub new_of_distinct : (known apart : Bool) → (apart && not known) ≡ true → known ≡ false
new_of_distinct true true h = cc
new_of_distinct true false h = cc
new_of_distinct false apart h = refl

pub known_of_repeated : (known apart : Bool) → apart ≡ true → (apart && not known) ≡ false → known ≡ true
known_of_repeated true apart is h = refl
known_of_repeated false true is h = cc
known_of_repeated false false is h = cc
