-- Tests of numbers that stand one after another.
use Rattle.std.proofs.Common.{◌≡◌, ℕ, suc, ◌+◌, ◌-◌, ◌<◌, ◌≤◌, Bool, true, false, ◌&&◌, sym, ap, ◌∙◌, arith}
use Rattle.std.specs.List.{list_all, range_with_len}

module _ (p : ℕ → Bool) (n count : ℕ) (whole : Bool) where
  first_front : n < count → list_all p (range_with_len n (count - n)) ≡ (p n && list_all p (range_with_len (n + 1) (count - (n + 1))))
  first_front within = let e : count - n ≡ suc (count - (n + 1)) = omega (arith, within) in ap (λ k. list_all p (range_with_len n k)) e

  pub first_passes : n < count → p n ≡ true → list_all p (range_with_len n (count - n)) ≡ whole → list_all p (range_with_len (n + 1) (count - (n + 1))) ≡ whole
  first_passes within passes left = sym (first_front within ∙ ap (λ b. b && list_all p (range_with_len (n + 1) (count - (n + 1)))) passes) ∙ left

  pub first_fails : n < count → p n ≡ false → list_all p (range_with_len n (count - n)) ≡ whole → false ≡ whole
  first_fails within fails left = sym (first_front within ∙ ap (λ b. b && list_all p (range_with_len (n + 1) (count - (n + 1)))) fails) ∙ left

  pub none_left : count ≤ n → list_all p (range_with_len n (count - n)) ≡ whole → true ≡ whole
  none_left past left = let e : 0 ≡ count - n = omega (arith, past) in ap (λ k. list_all p (range_with_len n k)) e ∙ left
