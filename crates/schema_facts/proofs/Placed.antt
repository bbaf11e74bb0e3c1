-- What stands at the place of the first directive of a name.
use Rattle.std.proofs.Common.{◌≡◌, ℕ, suc, ◌+◌, Bool, true, false, List, [], ◌∷◌, if◌then◌else◌, Some, ap, ◌∙◌, arith}
use Rattle.std.specs.Prelude.{slice_get}
use Rattle.std.specs.Str.{bytes_eq}
use Rattle.gql_base.specs.parts.Arguments.{DirectiveTree}
use Rattle.schema_facts.specs.Deprecations.{arguments_of, arguments_in, place_from, place_of}

module _ (name : List ℕ) (all : List DirectiveTree) where
  -- that of those behind the first n
  found_behind : (n : ℕ) (others : List DirectiveTree) → ((k : ℕ) → slice_get all (n + k) ≡ slice_get others k) → arguments_in (slice_get all (place_from n name others)) ≡ arguments_of name others
  found_behind n [] same = let no_more : n ≡ n + 0 = omega arith in ap arguments_in (ap (slice_get all) no_more ∙ same 0)
  found_behind n (d ∷ others) same =
      by (found_behind (n + 1) others (λ k. let one_more : (n + 1) + k ≡ n + suc k = omega arith in ap (slice_get all) one_more ∙ same (suc k))) (bytes_eq d.0.0 name)
    where
      here : slice_get all n ≡ Some d
      here = let no_more : n ≡ n + 0 = omega arith in ap (slice_get all) no_more ∙ same 0

      by : arguments_in (slice_get all (place_from (n + 1) name others)) ≡ arguments_of name others
          → (b : Bool) → arguments_in (slice_get all (if b then n else place_from (n + 1) name others)) ≡ (if b then Some d.1 else arguments_of name others)
      by later true = ap arguments_in here
      by later false = later

  pub found_there : (place : ℕ) → place ≡ place_of name all → arguments_in (slice_get all place) ≡ arguments_of name all
  found_there place is = ap (λ n. arguments_in (slice_get all n)) is ∙ found_behind 0 all (λ k. let none_more : 0 + k ≡ k = omega arith in ap (slice_get all) none_more)
