-- Numbers of which one is looked for: those that are left, from one on.
use Rattle.std.proofs.Common.{◌≡◌, ◌<◌, ℕ, suc, ◌+◌, ◌-◌, Bool, false, sym, ap, ◌∙◌, arith}
use Rattle.std.specs.Prelude.{◌||◌}
use Rattle.std.specs.List.{list_any, range_with_len}

module _ (test : ℕ → Bool) where
  abbrev pub left : ℕ → ℕ → Bool
  left n count = list_any test (range_with_len n (count - n))

  first_left : (n count : ℕ) → n < count → left n count ≡ (test n || left (n + 1) count)
  first_left n count within = let e : count - n ≡ suc (count - (n + 1)) = omega arith in ap (λ k. list_any test (range_with_len n k)) e

  pub passed_left : (n count : ℕ) (whole : Bool) → n < count → test n ≡ false → left n count ≡ whole → left (n + 1) count ≡ whole
  passed_left n count whole within is same = ap (λ b. b || left (n + 1) count) (sym is) ∙ (sym (first_left n count within) ∙ same)
