-- What sums and products that stop above the cap have in common with plain ones.
use Rattle.std.proofs.Common.{◌≡◌, ℕ, ◌+◌, ◌*◌, ◌^◌, ◌<◌, ◌≤◌, arith, zero, suc, min, refl, inl, inr, mul_comm}
use Rattle.std.proofs.lemmas.Bool.{cases_lt}
use Rattle.cost_num.specs.declared.TheConstants.{CAP}
use Rattle.cost_num.specs.Capped.{capped}

-- three capped amounts are added without a wrap
pub cap_fits : (CAP + 1) + (CAP + 1) + (CAP + 1) < 2 ^ 64
cap_fits = omega arith

pub capped_most : (n : ℕ) → capped n ≤ CAP + 1
capped_most n = omega arith

pub capped_same : (n : ℕ) → n ≤ CAP + 1 → capped n ≡ n
capped_same n small = omega arith

pub capped_exact : (n : ℕ) → capped n ≤ CAP → capped n ≡ n
capped_exact n small = omega arith

pub capped_over : (n : ℕ) → CAP < n → capped n ≡ CAP + 1
capped_over n large = omega arith

pub capped_rises : (m n : ℕ) → m ≤ n → capped m ≤ capped n
capped_rises m n below = omega arith

pub capped_twice : (n : ℕ) → capped (capped n) ≡ capped n
capped_twice n = omega arith

pub capped_left : (m n : ℕ) → capped (capped m + n) ≡ capped (m + n)
capped_left m n = omega arith

pub capped_right : (m n : ℕ) → capped (m + capped n) ≡ capped (m + n)
capped_right m n = omega arith

-- a product is past the top once one factor is, unless the other is zero
times_above : (top m n : ℕ) → top ≤ m → 0 < n → top ≤ m * n
times_above top m zero large some = absurd (omega arith)
times_above top m (suc n) large some = omega arith

min_times : (top m n : ℕ) → min (min m top * n) top ≡ min (m * n) top
min_times top m zero = omega arith
min_times top m (suc n) = elim (cases_lt m top) [
  | inl small ↦ let e : min m top ≡ m = omega arith in rw e refl
  | inr large ↦ let e : min m top ≡ top = omega arith in rw e (omega (arith, times_above top top (suc n) (omega arith) (omega arith), times_above top m (suc n) large (omega arith)))
]

pub capped_times : (m n : ℕ) → capped (capped m * n) ≡ capped (m * n)
capped_times m n = min_times (CAP + 1) m n

pub capped_counts : (m n : ℕ) → capped (n * capped m) ≡ capped (n * m)
capped_counts m n = rw (mul_comm n (capped m), mul_comm n m) (capped_times m n)
