-- A printed integer of 128 bits is an integer of a text and has that value. The value of each integer of a text has 128
-- bits.
use Rattle.std.proofs.Common.{◌≡◌, ℕ, zero, suc, ◌+◌, ◌/◌, ◌%◌, ◌^◌, ◌<◌, ◌≤◌, Bool, true, false, ◌==◌, List, [], ◌∷◌, ◌++◌, length, get_or, IsUtf8, refl, sym, ap, ◌∙◌, arith, ℤ, pos, negsuc, subst, FitsSigned}
use Rattle.std.specs.Prelude.{neg_ℤ}
use Rattle.std.specs.Int.{w128}
use Rattle.std.specs.Char.{is_ascii_digit}
use Rattle.std.specs.Fmt.{decimal, signed_decimal}
use Rattle.std.specs.Str.Parse.{digits_value}
use Rattle.std.proofs.lemmas.Bool.Decides.{nat_tests}
use Rattle.std.proofs.lemmas.List.Elements.{All-nil, All-cons, All-append}
use Rattle.std.proofs.lemmas.Fmt.{decimal_by_steps_wide, decimal_is_IsNumeral_wide}
use Rattle.std.proofs.lemmas.Bool.{le-leb, lt-ltb}
use Rattle.gql_base.specs.lexical.Numbers.{IsWhole, minus_bytes}
use Rattle.gql_base.specs.lexical.Pieces.{IsInRange, IsInteger}
use Rattle.gql_base.specs.lexical.Literals.{is_numeral, integer_value}
use Rattle.gql_base.proofs.LexicalLaws.Integers.{whole_digits, integer_is_text}

-- ---- digits

-- digits of a whole number, of which only 0 begins with `0`
IsDecimal : ℕ → List ℕ → Type 0
IsDecimal n ds = IsWhole ds × (0 < n → (get_or ds 0 0 == 48) ≡ false)

digit_passes : (d : ℕ) → d < 10 → is_ascii_digit (48 + d) ≡ true
digit_passes d small = grind (arith, nat_tests)

digit_no_zero : (d : ℕ) → 0 < d → (48 + d == 48) ≡ false
digit_no_zero d some = grind (arith, nat_tests)

one_digit : (n : ℕ) → n < 10 → IsDecimal n ((48 + n) ∷ [])
unfolding IsDecimal
one_digit n small = ((digit_passes n small, All-nil (λ c. is_ascii_digit c ≡ true), λ zero. refl), digit_no_zero n)

more_digits : (n d : ℕ) (ds : List ℕ) → 0 < n → d < 10 → IsDecimal n ds → IsDecimal (suc n) (ds ++ (48 + d) ∷ [])
unfolding IsDecimal
more_digits n d [] some small is = absurd is.0
more_digits n d (x ∷ xs) some small is = (
  (is.0.0, All-append (λ c. is_ascii_digit c ≡ true) xs ((48 + d) ∷ []) is.0.1 (All-cons (λ c. is_ascii_digit c ≡ true) (48 + d) [] (digit_passes d small) (All-nil (λ c. is_ascii_digit c ≡ true))), λ zero. absurd (let no_way : true ≡ false = sym zero ∙ is.1 some in cc)),
  λ more. is.1 some,
)

any_size : (m n : ℕ) (ds : List ℕ) → 0 < m → IsDecimal m ds → IsDecimal n ds
unfolding IsDecimal
any_size m n ds some is = (is.0, λ more. is.1 some)

decimal_is : (n : ℕ) → n < 10 ^ 64 → IsDecimal n (decimal n)
decimal_is = decimal_by_steps_wide IsDecimal one_digit
    (λ n ds high is. let some : 0 < n / 10 = omega (arith, high) in any_size (suc (n / 10)) n (ds ++ ((48 + n % 10) ∷ [])) (omega arith) (more_digits (n / 10) (n % 10) ds some (omega arith) is))

range_is_small : (n : ℕ) → n ≤ 2 ^ 127 → n < 10 ^ 64
range_is_small n small = omega (arith, small)

whole_decimal : (n : ℕ) → n ≤ 2 ^ 127 → IsWhole (decimal n)
unfolding IsDecimal
whole_decimal n small = (decimal_is n (range_is_small n small)).0

decimal_value : (n : ℕ) → n ≤ 2 ^ 127 → digits_value 10 (decimal n) ≡ n
decimal_value n small = (decimal_is_IsNumeral_wide n (range_is_small n small)).1

-- ---- printed integers

pub printed_integer : (z : ℤ) → FitsSigned w128 z → IsInteger (signed_decimal z)
printed_integer (pos n) fits =
    let below : n < 2 ^ 127 = fits.sfits in
    record { minus = false; whole = decimal n; cut = refl; is = whole_decimal n (omega (arith, below)); small = rw (decimal_value n (omega (arith, below))) below }
printed_integer (negsuc n) fits =
    let below : n < 2 ^ 127 = fits.sfits in
    record { minus = true; whole = decimal (suc n); cut = refl; is = whole_decimal (suc n) (omega (arith, below)); small = rw (decimal_value (suc n) (omega (arith, below))) (omega (arith, below)) }

pub printed_integer_utf8 : (z : ℤ) → FitsSigned w128 z → IsUtf8 (signed_decimal z)
printed_integer_utf8 z fits = let i = printed_integer z fits in integer_is_text (signed_decimal z) i.whole i.minus i.cut i.is

-- ---- values

with_sign : Bool → ℕ → ℤ
with_sign true n = neg_ℤ (pos n)
with_sign false n = pos n

numeral_whole : (ws : List ℕ) → IsWhole ws → is_numeral ws ≡ true
numeral_whole ws is = rw (some (length ws) (whole_digits ws is).1) (whole_digits ws is).0
  where
    some : (n : ℕ) → 0 < n → (n == 0) ≡ false
    some n more = grind (arith, nat_tests)

minus_written : (ws : List ℕ) → IsWhole ws → digits_value 10 ws ≤ 2 ^ 127 → integer_value (45 ∷ ws) ≡ neg_ℤ (pos (digits_value 10 ws))
minus_written ws is small = rw (numeral_whole ws is, le-leb (digits_value 10 ws) (2 ^ 127) small) refl

no_sign : (c : ℕ) → is_ascii_digit c ≡ true → ((c == 45) ≡ false) × ((c == 43) ≡ false)
no_sign c is = (grind (arith, nat_tests), grind (arith, nat_tests))

plain_written : (c : ℕ) (cs : List ℕ) → IsWhole (c ∷ cs) → digits_value 10 (c ∷ cs) < 2 ^ 127 → integer_value (c ∷ cs) ≡ pos (digits_value 10 (c ∷ cs))
plain_written c cs is small =
    let s = no_sign c is.0 in
    rw (s.0, s.1, numeral_whole (c ∷ cs) is, lt-ltb (digits_value 10 (c ∷ cs)) (2 ^ 127) small) refl

value_written : (minus : Bool) (ws : List ℕ) → IsWhole ws → IsInRange minus (digits_value 10 ws) → integer_value (minus_bytes minus ++ ws) ≡ with_sign minus (digits_value 10 ws)
unfolding with_sign
value_written true ws is small = minus_written ws is small
value_written false [] is small = absurd is
value_written false (c ∷ cs) is small = plain_written c cs is small

pub printed_integer_value : (z : ℤ) → FitsSigned w128 z → integer_value (signed_decimal z) ≡ z
unfolding with_sign
printed_integer_value (pos n) fits =
    let below : n < 2 ^ 127 = fits.sfits in
    let v : digits_value 10 (decimal n) ≡ n = decimal_value n (omega (arith, below)) in
    value_written false (decimal n) (whole_decimal n (omega (arith, below))) (rw v below) ∙ ap pos v
printed_integer_value (negsuc n) fits =
    let below : n < 2 ^ 127 = fits.sfits in
    let v : digits_value 10 (decimal (suc n)) ≡ suc n = decimal_value (suc n) (omega (arith, below)) in
    value_written true (decimal (suc n)) (whole_decimal (suc n) (omega (arith, below))) (rw v (omega (arith, below))) ∙ ap (λ m. neg_ℤ (pos m)) v

sign_fits : (minus : Bool) (n : ℕ) → IsInRange minus n → FitsSigned w128 (with_sign minus n)
unfolding with_sign
sign_fits true zero small = record { sfits = omega arith }
sign_fits true (suc n) small = record { sfits = omega (arith, small) }
sign_fits false n small = record { sfits = small }

pub integer_fits_128 : (bytes : List ℕ) → IsInteger bytes → FitsSigned w128 (integer_value bytes)
integer_fits_128 bytes is = subst (FitsSigned w128) (sym (ap integer_value is.cut ∙ value_written is.minus is.whole is.is is.small)) (sign_fits is.minus (digits_value 10 is.whole) is.small)
