-- Cutting a list at a place.
use Prim.Native.Nat.{suc}
use Rattle.std.proofs.Common.{◌≡◌, ℕ, ◌+◌, List, ◌∷◌, take, drop, ap, arith}

pub take_one_more : (n x : ℕ) (xs : List ℕ) → take (1 + n) (x ∷ xs) ≡ x ∷ take n xs
take_one_more n x xs = ap (λ k. take k (x ∷ xs)) {x = 1 + n} {y = suc n} (omega arith)

pub drop_one_more : (n x : ℕ) (xs : List ℕ) → drop (n + 1) (x ∷ xs) ≡ drop n xs
drop_one_more n x xs = ap (λ k. drop k (x ∷ xs)) {x = n + 1} {y = suc n} (omega arith)

pub drop_two_more : (n x : ℕ) (xs : List ℕ) → drop (1 + n + 1) (x ∷ xs) ≡ drop (n + 1) xs
drop_two_more n x xs = ap (λ k. drop k (x ∷ xs)) {x = 1 + n + 1} {y = suc (n + 1)} (omega arith)
