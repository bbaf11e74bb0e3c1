-- Moments in decimal digits.
use Rattle.std.proofs.Common.{◌≡◌, ℕ, ◌<◌, inl, inr, List, refl, sym, ap, ◌∙◌, subst, arith, Result, Ok, Err, codes}
use Rattle.std.specs.Prelude.{IfSome, IfNone}
use Rattle.std.specs.Fmt.{decimal}
use Rattle.std.specs.Result.{result_ok}
use Rattle.std.specs.Str.Parse.{AllDigits, digits_value, ParsesUnsigned}
use Rattle.std.proofs.lemmas.Fmt.{decimal_is_IsNumeral, first_decimal, decimal-digits_value, parse-decimal, decimal_digit}
use Rattle.std.proofs.lemmas.Str.Parse.{IsNumeralModel, parse_plain, digit_at}
use Rattle.std.proofs.lemmas.Bool.{cases_lt}
use Rattle.replay_scripts.specs.Words.{IsMoment, BeginsAboveNought}

-- 0 is a moment
pub nought : (text : List ℕ) → text ≡ codes "0" → IsMoment text 0
nought text is = (is ∙ sym (decimal_digit 0 (omega arith)), omega arith)

-- a moment that isn't 0 begins with another digit
begins : (text : List ℕ) (moment : ℕ) → 0 < moment → IsMoment text moment → BeginsAboveNought text
begins text moment above is =
    let d = decimal_is_IsNumeral moment (omega (arith, is.1)) in
    let low = first_decimal moment above (omega (arith, is.1)) in
    let high = digit_at (decimal moment) 0 d.0.1 d.0.0 in
    subst BeginsAboveNought (sym is.0) (low, omega (arith, high.1))

-- and no other text is one
pub no_moment : (text : List ℕ) → (text ≡ codes "0" → ⊥) → (BeginsAboveNought text → ⊥) → (moment : ℕ) → IsMoment text moment → ⊥
no_moment text not_nought not_begun moment is = elim (cases_lt 0 moment) [
  | inl above ↦ not_begun (begins text moment above is)
  | inr low ↦ not_nought (is.0 ∙ ap decimal {x = moment} {y = 0} (omega (arith, low)) ∙ decimal_digit 0 (omega arith))
]

plain : IsNumeralModel (AllDigits 10) (digits_value 10)
plain = record { to = λ ds d. d; from = λ ds d. d; same = λ ds d. refl }

read_digits : (E : Type 0) (text : List ℕ) (moment : ℕ) → ParsesUnsigned {E = E} 64 10 text (Ok moment) → BeginsAboveNought text → IsMoment text moment
read_digits E text moment parses begun =
    let told = parse_plain plain {E = E} 64 text (Ok moment) parses (λ plus. omega (arith, plus, begun.0)) in
    let small : digits_value 10 text < 18446744073709551616 = omega (arith, told.0.2) in
    let same : decimal (digits_value 10 text) ≡ text = decimal-digits_value plain text told.0.0 told.0.1 (λ none. absurd (omega (arith, none, begun.0))) small in
    (sym same ∙ ap decimal (sym told.1), omega (arith, told.1, small))

-- what is read of digits that begin with another one than 0 is the moment
pub moment_some : {E : Type 0} (text : List ℕ) (read : Result ℕ E) → ParsesUnsigned 64 10 text read → BeginsAboveNought text → IfSome (result_ok read) (λ moment. IsMoment text moment)
moment_some {E} text (Ok moment) parses begun = read_digits E text moment parses begun
moment_some text (Err e) parses begun = tt

-- and where none is read, there is none
pub moment_none : {E : Type 0} (text : List ℕ) (read : Result ℕ E) → ParsesUnsigned 64 10 text read → IfNone (result_ok read) ((moment : ℕ) → ¬ (IsMoment text moment))
moment_none text (Ok moment) parses = tt
moment_none text (Err e) parses = λ moment is. let ok = parse-decimal 64 moment text (Err e) is.1 (omega (arith, is.1)) is.0 parses in cc
