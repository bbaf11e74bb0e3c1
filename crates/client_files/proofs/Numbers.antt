-- Numbers above 0 in decimal digits, and windows.
use Rattle.std.proofs.Common.{◌≡◌, ℕ, zero, suc, ◌<◌, List, ◌++◌, drop, refl, sym, ap, ◌∙◌, subst, arith, Result, Ok, Err}
use Rattle.std.specs.Prelude.{IfSome, IfNone, codes}
use Rattle.std.specs.Fmt.{decimal}
use Rattle.std.specs.Result.{result_ok}
use Rattle.std.specs.Str.Parse.{AllDigits, digits_value, ParsesUnsigned}
use Rattle.std.proofs.lemmas.Fmt.{decimal_is_IsNumeral, first_decimal, decimal-digits_value, decimal_digit, decimal_injective, parse-decimal}
use Rattle.std.proofs.lemmas.Str.Parse.{IsNumeralModel, parse_plain, digit_at}
use Rattle.client_files.specs.Headings.{BeginsNumber, IsWindowLine}

plain : IsNumeralModel (AllDigits 10) (digits_value 10)
plain = record { to = λ ds d. d; from = λ ds d. d; same = λ ds d. refl }

-- the text of a number above 0 begins with a digit other than 0
pub begins_number : (number : ℕ) (text : List ℕ) → 0 < number → number < 4294967296 → text ≡ decimal number → BeginsNumber text
begins_number number text above small e =
    let d = decimal_is_IsNumeral number (omega (arith, small)) in
    let low = first_decimal number above (omega (arith, small)) in
    let high = digit_at (decimal number) 0 d.0.1 d.0.0 in
    subst BeginsNumber (sym e) (low, omega (arith, high.1))

above_nought : (number : ℕ) (text : List ℕ) → BeginsNumber text → text ≡ decimal number → 0 < number
above_nought zero text begins e =
    let first = subst BeginsNumber (e ∙ decimal_digit 0 (omega arith)) begins in
    absurd (omega (arith, first.0))
above_nought (suc number) text begins e = omega arith

-- digits that are read are the text of their number
read_digits : (E : Type 0) (text : List ℕ) (number : ℕ) → ParsesUnsigned {E = E} 32 10 text (Ok number) → BeginsNumber text → text ≡ decimal number
read_digits E text number parses begins =
    let told = parse_plain plain {E = E} 32 text (Ok number) parses (λ plus. omega (arith, plus, begins.0)) in
    let small : digits_value 10 text < 18446744073709551616 = omega (arith, told.0.2) in
    let same : decimal (digits_value 10 text) ≡ text = decimal-digits_value plain text told.0.0 told.0.1 (λ nought. absurd (omega (arith, nought, begins.0))) small in
    sym same ∙ ap decimal (sym told.1)

pub number_some : {E : Type 0} (text : List ℕ) (read : Result ℕ E) → ParsesUnsigned 32 10 text read → BeginsNumber text → IfSome (result_ok read) (λ number. text ≡ decimal number)
number_some {E} text (Ok number) parses begins = read_digits E text number parses begins
number_some text (Err e) parses begins = tt

pub number_above : {E : Type 0} (text : List ℕ) (read : Result ℕ E) → ParsesUnsigned 32 10 text read → BeginsNumber text → IfSome (result_ok read) (λ number. 0 < number)
number_above {E} text (Ok number) parses begins = above_nought number text begins (read_digits E text number parses begins)
number_above text (Err e) parses begins = tt

pub number_none : {E : Type 0} (text : List ℕ) (read : Result ℕ E) → ParsesUnsigned 32 10 text read → IfNone (result_ok read) ((number : ℕ) → 0 < number → number < 4294967296 → ¬ (text ≡ decimal number))
number_none text (Ok number) parses = tt
number_none text (Err e) parses = λ number above small is. let ok = parse-decimal 32 number text (Err e) small (omega (arith, small)) is parses in cc

-- the window of a line is one number
pub one_window : (line rest : List ℕ) (seconds other : ℕ) → line ≡ codes "window " ++ rest → rest ≡ decimal seconds → seconds < 4294967296 → IsWindowLine line other → other ≡ seconds
one_window line rest seconds other cut is small given =
    let same : decimal other ≡ decimal seconds = ap (drop 7) (sym given.text ∙ cut) ∙ is in
    decimal_injective other seconds (omega (arith, given.window.1)) (omega (arith, small)) same

pub same_window : (line : List ℕ) (seconds other : ℕ) → IsWindowLine line seconds → IsWindowLine line other → seconds ≡ other
same_window line seconds other one two = one_window line (decimal other) other seconds two.text refl (omega (arith, two.window.1)) one
