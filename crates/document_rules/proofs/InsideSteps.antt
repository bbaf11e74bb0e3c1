-- What the walk is inside of, fragment after fragment outward.
use Rattle.std.proofs.Common.{◌≡◌, ◌≢◌, ◌+◌, ◌-◌, ◌<◌, ◌≤◌, ◌||◌, ℕ, suc, nat_eq, Bool, true, false, List, length, Option, None, Some, sym, ap, ◌∙◌, arith}
use Rattle.std.specs.List.{list_any}
use Rattle.std.proofs.lemmas.Bool.{eq-eqb, ne_eqb}
use Rattle.document_rules.specs.Met.{Met, met_there, outward_from, outward}

module _ (met : List Met) (k : ℕ) (at : Option ℕ) (number : ℕ) (whole : Bool) where
  abbrev Goes : Type 0
  Goes = list_any (nat_eq number) (outward (length met - k) met at) ≡ whole

  next : k < length met → outward (length met - k) met at ≡ outward_from (outward (length met - (k + 1)) met) (met_there met at)
  unfolding outward
  next within = let e : length met - k ≡ suc (length met - (k + 1)) = omega arith in ap (λ n. outward n met at) e

  pub inside_ends : k < length met → None ≡ met_there met at → Goes → false ≡ whole
  inside_ends within none before =
      ap (λ o. list_any (nat_eq number) (outward_from (outward (length met - (k + 1)) met) o)) none ∙ (sym (ap (list_any (nat_eq number)) (next within)) ∙ before)

  there : (one : Met) → k < length met → Some one ≡ met_there met at → Goes → (nat_eq number one.fragment || list_any (nat_eq number) (outward (length met - (k + 1)) met one.within)) ≡ whole
  there one within is before =
      ap (λ o. list_any (nat_eq number) (outward_from (outward (length met - (k + 1)) met) o)) is ∙ (sym (ap (list_any (nat_eq number)) (next within)) ∙ before)

  pub inside_here : (one : Met) → k < length met → Some one ≡ met_there met at → number ≡ one.fragment → Goes → true ≡ whole
  inside_here one within is same before =
      sym (ap (λ b. b || list_any (nat_eq number) (outward (length met - (k + 1)) met one.within)) (eq-eqb number one.fragment same)) ∙ there one within is before

  pub inside_later : (one : Met) → k < length met → Some one ≡ met_there met at → number ≢ one.fragment → Goes → list_any (nat_eq number) (outward (length met - (k + 1)) met one.within) ≡ whole
  inside_later one within is other before =
      sym (ap (λ b. b || list_any (nat_eq number) (outward (length met - (k + 1)) met one.within)) (ne_eqb number one.fragment other)) ∙ there one within is before

  pub inside_none : length met ≤ k → Goes → false ≡ whole
  unfolding outward
  inside_none past before = let e : length met - k ≡ 0 = omega arith in sym (ap (λ n. list_any (nat_eq number) (outward n met at)) e) ∙ before
