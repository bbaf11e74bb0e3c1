-- Whether an integer is in range is what parsing tells.
use Rattle.std.proofs.Common.{◌≡◌, ◌≢◌, ℕ, zero, suc, ◌<◌, ◌≤◌, ◌^◌, Bool, true, false, ◌==◌, List, [], ◌∷◌, ◌++◌, length, get_or, Option, Some, None, refl, sym, ap, ◌∙◌, arith, Result, Ok, Err, ℤ, subst}
use mir.Syntax.{w128}
use Rattle.std.specs.Result.{is_ok}
use Rattle.std.specs.Prelude.{nat_lt, nat_le, IsUtf8}
use Rattle.std.specs.List.{AllPass}
use Rattle.std.specs.Char.{is_ascii_digit}
use Rattle.std.specs.Str.{all_ascii_digits}
use Rattle.std.specs.Str.Parse.{ParsesSigned, digits_value}
use Rattle.std.proofs.lemmas.Bool.Decides.{nat_tests}
use Rattle.std.proofs.lemmas.List.Elements.{All-head, All-tail}
use Rattle.std.proofs.lemmas.Str.{IsUtf8-from_ascii}
use Rattle.std.proofs.lemmas.Str.Parse.{IsNumeralModel, numerals_by_value, tells_all_ascii_digits, parse_signed_minus, parse_signed_plain}
use Rattle.std.proofs.lemmas.Bool.{le-leb, lt-ltb}
use Rattle.gql_base.specs.lexical.Characters.{is_exponent_mark, is_sign}
use Rattle.gql_base.specs.lexical.Numbers.{IsDigits, IsWhole, Exponent, Numeral, minus_bytes, fraction_bytes, sign_bytes, exponent_bytes, numeral_bytes, IsFraction, IsSign, IsExponent, IsNumeral}
use Rattle.gql_base.specs.lexical.Fronts.{integer_fits}

own : IsNumeralModel (λ ds. all_ascii_digits ds ≡ true) (digits_value 10)
own = numerals_by_value (λ ds. all_ascii_digits ds ≡ true) tells_all_ascii_digits

all_digits : (cs : List ℕ) → AllPass is_ascii_digit cs → all_ascii_digits cs ≡ true
all_digits [] all = refl
all_digits (c ∷ cs) all = rw (All-head (λ x. is_ascii_digit x ≡ true) c cs all) (all_digits cs (All-tail (λ x. is_ascii_digit x ≡ true) c cs all))

pub whole_digits : (ws : List ℕ) → IsWhole ws → (all_ascii_digits ws ≡ true) × (0 < length ws)
whole_digits [] is = absurd is
whole_digits (c ∷ cs) is = (rw is.0 (all_digits cs is.1), omega arith)

digit_small : (c : ℕ) → is_ascii_digit c ≡ true → c < 128
digit_small c is = grind (arith, nat_tests)

digit_unsigned : (c : ℕ) → is_ascii_digit c ≡ true → ((c == 45) ≡ false) × (c ≢ 43) × (c ≢ 45)
digit_unsigned c is = (grind (arith, nat_tests), λ e. grind (arith, nat_tests), λ e. grind (arith, nat_tests))

digits_ascii : (cs : List ℕ) (i : ℕ) → AllPass is_ascii_digit cs → get_or cs i 0 < 128
digits_ascii [] i all = omega arith
digits_ascii (c ∷ cs) zero all = digit_small c (All-head (λ x. is_ascii_digit x ≡ true) c cs all)
digits_ascii (c ∷ cs) (suc i) all = digits_ascii cs i (All-tail (λ x. is_ascii_digit x ≡ true) c cs all)

whole_ascii : (ws : List ℕ) (i : ℕ) → IsWhole ws → get_or ws i 0 < 128
whole_ascii [] i is = omega arith
whole_ascii (c ∷ cs) zero is = digit_small c is.0
whole_ascii (c ∷ cs) (suc i) is = digits_ascii cs i is.1

pub integer_ascii : (minus : Bool) (ws : List ℕ) (i : ℕ) → IsWhole ws → get_or (minus_bytes minus ++ ws) i 0 < 128
integer_ascii true ws zero is = omega arith
integer_ascii true ws (suc i) is = whole_ascii ws i is
integer_ascii false ws i is = whole_ascii ws i is

-- ---- the bytes of a numeral are ASCII

abbrev AreAscii : List ℕ → Type 0
AreAscii xs = (i : ℕ) → get_or xs i 0 < 128

none_ascii : AreAscii []
none_ascii = λ i. omega arith

more_ascii : (c : ℕ) (cs : List ℕ) → c < 128 → AreAscii cs → AreAscii (c ∷ cs)
more_ascii c cs here others zero = here
more_ascii c cs here others (suc i) = others i

both_ascii : (xs ys : List ℕ) → AreAscii xs → AreAscii ys → AreAscii (xs ++ ys)
both_ascii [] ys first second = second
both_ascii (x ∷ xs) ys first second = more_ascii x (xs ++ ys) (first 0) (both_ascii xs ys (λ i. first (suc i)) second)

minus_ascii : (m : Bool) → AreAscii (minus_bytes m)
minus_ascii true = more_ascii 45 [] (omega arith) none_ascii
minus_ascii false = none_ascii

some_digits_ascii : (ds : List ℕ) → IsDigits ds → AreAscii ds
some_digits_ascii [] is = absurd is
some_digits_ascii (c ∷ cs) is = more_ascii c cs (digit_small c is.0) (λ i. digits_ascii cs i is.1)

fraction_ascii : (f : Option (List ℕ)) → IsFraction f → AreAscii (fraction_bytes f)
fraction_ascii None is = none_ascii
fraction_ascii (Some ds) is = more_ascii 46 ds (omega arith) (some_digits_ascii ds is)

letter_small : (c : ℕ) → is_exponent_mark c ≡ true → c < 128
letter_small c is = grind (arith, nat_tests)

sign_small : (c : ℕ) → is_sign c ≡ true → c < 128
sign_small c is = grind (arith, nat_tests)

sign_ascii : (s : Option ℕ) → IsSign s → AreAscii (sign_bytes s)
sign_ascii None is = none_ascii
sign_ascii (Some c) is = more_ascii c [] (sign_small c is) none_ascii

exponent_ascii : (e : Option Exponent) → IsExponent e → AreAscii (exponent_bytes e)
exponent_ascii None is = none_ascii
exponent_ascii (Some e) is = more_ascii e.letter (sign_bytes e.sign ++ e.digits) (letter_small e.letter is.0) (both_ascii (sign_bytes e.sign) e.digits (sign_ascii e.sign is.1) (some_digits_ascii e.digits is.2))

pub numeral_ascii : (n : Numeral) (i : ℕ) → IsNumeral n → get_or (numeral_bytes n) i 0 < 128
numeral_ascii n i is =
    let end : List ℕ = exponent_bytes n.exponent in
    let back : AreAscii (fraction_bytes n.fraction ++ end) = both_ascii (fraction_bytes n.fraction) end (fraction_ascii n.fraction is.1) (exponent_ascii n.exponent is.2) in
    both_ascii (minus_bytes n.minus) (n.whole ++ (fraction_bytes n.fraction ++ end)) (minus_ascii n.minus) (both_ascii n.whole (fraction_bytes n.fraction ++ end) (λ k. whole_ascii n.whole k is.0) back) i

pub integer_is_text : (bytes ws : List ℕ) (minus : Bool) → bytes ≡ minus_bytes minus ++ ws → IsWhole ws → IsUtf8 bytes
integer_is_text bytes ws minus cut is = rw cut (IsUtf8-from_ascii (minus_bytes minus ++ ws) (λ i. integer_ascii minus ws i is))

le_false : (m n : ℕ) → (m ≤ n → ⊥) → nat_le m n ≡ false
le_false m n above = grind (arith, nat_tests)

lt_false : (m n : ℕ) → (m < n → ⊥) → nat_lt m n ≡ false
lt_false m n above = grind (arith, nat_tests)

minus_fits : {E : Type 0} (ws : List ℕ) (r : Result ℤ E) → IsWhole ws → ParsesSigned w128 10 (45 ∷ ws) r → is_ok r ≡ nat_le (digits_value 10 ws) (2 ^ 127)
minus_fits {E = E} ws (Ok z) is h = sym (le-leb (digits_value 10 ws) (2 ^ 127) (parse_signed_minus own {E = E} w128 (45 ∷ ws) (Ok z) h refl).0.2)
minus_fits ws (Err e) is h = sym (le_false (digits_value 10 ws) (2 ^ 127) (λ le. parse_signed_minus own w128 (45 ∷ ws) (Err e) h refl ((whole_digits ws is).0, (whole_digits ws is).1, le)))

plain_fits : {E : Type 0} (ws : List ℕ) (r : Result ℤ E) → IsWhole ws → get_or ws 0 0 ≢ 43 → get_or ws 0 0 ≢ 45 → ParsesSigned w128 10 ws r → is_ok r ≡ nat_lt (digits_value 10 ws) (2 ^ 127)
plain_fits {E = E} ws (Ok z) is never_plus never h = sym (lt-ltb (digits_value 10 ws) (2 ^ 127) (parse_signed_plain own {E = E} w128 ws (Ok z) h never_plus never).0.2)
plain_fits ws (Err e) is never_plus never h = sym (lt_false (digits_value 10 ws) (2 ^ 127) (λ lt. parse_signed_plain own w128 ws (Err e) h never_plus never ((whole_digits ws is).0, (whole_digits ws is).1, lt)))

pub fits_plain : (c : ℕ) (cs : List ℕ) → is_ascii_digit c ≡ true → integer_fits (c ∷ cs) ≡ nat_lt (digits_value 10 (c ∷ cs)) (2 ^ 127)
fits_plain c cs is = rw (digit_unsigned c is).0 refl

parsed : {E : Type 0} (minus : Bool) (ws : List ℕ) (r : Result ℤ E) → IsWhole ws → ParsesSigned w128 10 (minus_bytes minus ++ ws) r → is_ok r ≡ integer_fits (minus_bytes minus ++ ws)
parsed true ws r is h = minus_fits ws r is h
parsed false [] r is h = absurd is
parsed false (c ∷ cs) r is h = plain_fits (c ∷ cs) r is (digit_unsigned c is.0).1 (digit_unsigned c is.0).2 h ∙ sym (fits_plain c cs is.0)

pub parsing_tells : {E : Type 0} (bytes text ws : List ℕ) (minus : Bool) (r : Result ℤ E) → bytes ≡ minus_bytes minus ++ ws → text ≡ bytes → IsWhole ws → ParsesSigned w128 10 text r → is_ok r ≡ integer_fits bytes
parsing_tells bytes text ws minus r cut same is h =
    parsed minus ws r is (subst (λ t. ParsesSigned w128 10 t r) (same ∙ cut) h) ∙ ap integer_fits (sym cut)
