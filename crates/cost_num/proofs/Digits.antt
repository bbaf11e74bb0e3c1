-- Facts on the digits that are written.
use Rattle.std.proofs.Common.{◌≡◌, ℕ, zero, suc, ◌+◌, ◌-◌, ◌/◌, ◌%◌, ◌^◌, ◌<◌, ◌≤◌, ◌++◌, ◌∷◌, [], List, length, arith, refl, ap, ◌∙◌, append_assoc}
use Rattle.std.proofs.Math.ListN.{length-append}
pub use Rattle.std.proofs.lemmas.Fmt.{decimal_step, decimal_digit, length-decimal-le}
use Rattle.std.specs.Fmt.{decimal}
use Rattle.cost_num.specs.CostText.{last_digits}

pub length-last_digits : (places n : ℕ) → length (last_digits places n) ≡ places
unfolding last_digits
length-last_digits zero n = refl
length-last_digits (suc places) n = omega (arith, length-append (last_digits places (n / 10)) ((48 + n % 10) ∷ []), length-last_digits places (n / 10))

pub last_digits_none : (places n : ℕ) → places ≡ 0 → last_digits places n ≡ []
unfolding last_digits
last_digits_none zero n is = refl
last_digits_none (suc places) n is = absurd (omega arith)

pub last_digits_step : (places n : ℕ) → 0 < places → last_digits places n ≡ last_digits (places - 1) (n / 10) ++ ((48 + n % 10) ∷ [])
unfolding last_digits
last_digits_step zero n some = absurd (omega arith)
last_digits_step (suc places) n some = let e : suc places - 1 ≡ places = omega arith in rw e refl

pub length-decimal_digit : (n : ℕ) → n < 10 → length (decimal n) ≡ 1
length-decimal_digit n small = ap length (decimal_digit n small)

pub length-decimal_step : (n : ℕ) → 10 ≤ n → n < 2 ^ 64 → length (decimal n) ≡ length (decimal (n / 10)) + 1
length-decimal_step n large fits = ap length (decimal_step n large fits) ∙ length-append (decimal (n / 10)) ((48 + n % 10) ∷ [])

-- two pieces that are written one after the other
pub written_twice : (before middle after first second : List ℕ) → after ≡ middle ++ second → middle ≡ before ++ first → after ≡ before ++ (first ++ second)
written_twice before middle after first second later sooner = later ∙ ap (λ bytes. bytes ++ second) sooner ∙ append_assoc before first second

-- what writing a number digit by digit needs
pub ruleset digit_by_digit = (length-decimal_digit, length-decimal_step, decimal_digit, decimal_step)

-- the same for the last digits
pub ruleset last_by_last = (last_digits_none, last_digits_step)
