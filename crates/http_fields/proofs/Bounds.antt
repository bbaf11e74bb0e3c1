-- Numbers of few digits.
use Rattle.std.proofs.Common.{◌≡◌, ℕ, zero, suc, ◌+◌, ◌-◌, ◌*◌, ◌≤◌, List, length, refl, ap, subst, arith, true, false, Bool}
use Rattle.std.specs.Prelude.{nat_lt, nat_le, ◌&&◌}
use Rattle.std.specs.List.{list_all}
use Rattle.std.specs.Char.{is_ascii_digit}
use Rattle.std.proofs.lemmas.Bool.{and_parts}
use Rattle.std.proofs.lemmas.Bool.Decides.{nat_tests}
use Rattle.http_fields.specs.Digits.{tens}
use Rattle.http_fields.specs.Fields.{is_length}

pub at_most_18 : (ds : List ℕ) → is_length ds ≡ true → length ds ≤ 18
at_most_18 ds e = let two = and_parts (nat_lt 0 (length ds)) _ e in let three = and_parts (nat_le (length ds) 18) _ two.1 in let four = three.0 in grind (arith, nat_tests)

pub are_digits : (ds : List ℕ) → is_length ds ≡ true → list_all is_ascii_digit ds ≡ true
are_digits ds e = let two = and_parts (nat_lt 0 (length ds)) _ e in (and_parts (nat_le (length ds) 18) _ two.1).1

pub tens_more : (n : ℕ) → tens (n + 1) ≡ tens n * 10
unfolding tens
tens_more n = ap tens (one_more n)
  where
    one_more : (n : ℕ) → n + 1 ≡ suc n
    one_more n = omega arith

tens_up : (k n : ℕ) → tens n ≤ tens (n + k)
tens_up zero n = subst (λ m. tens n ≤ tens m) (zero_more n) (omega arith)
  where
    zero_more : (n : ℕ) → n ≡ n + zero
    zero_more n = omega arith
tens_up (suc k) n =
    let up = tens_up k n in
    let more = tens_more (n + k) in
    subst (λ m. tens n ≤ tens m) (suc_more n k) (omega (arith, up, more))
  where
    suc_more : (n k : ℕ) → n + k + 1 ≡ n + suc k
    suc_more n k = omega arith

tens_17 : tens 17 ≡ 100000000000000000
unfolding tens
tens_17 = refl

pub tens_within : (i : ℕ) → i ≤ 17 → tens i ≤ 100000000000000000
tens_within i fits =
    let up = tens_up (17 - i) i in
    let same : i + (17 - i) ≡ 17 = omega (arith, fits) in
    omega (arith, up, ap tens same, tens_17)

pub tens_none : tens 0 ≡ 1
unfolding tens
tens_none = refl
