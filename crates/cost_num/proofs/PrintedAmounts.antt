-- A printed amount spells that amount.
use Rattle.std.proofs.Common.{◌≡◌, ℕ, zero, suc, ◌+◌, ◌-◌, ◌*◌, ◌/◌, ◌%◌, ◌^◌, ◌<◌, ◌≤◌, inr, ◌++◌, ◌∷◌, [], List, length, refl, ap, sym, subst, ◌∙◌, arith}
use Rattle.std.proofs.lemmas.Fmt.{decimal_is_IsNumeral}
use Rattle.std.proofs.lemmas.List.{take_all}
use Rattle.std.proofs.lemmas.Str.{digit_value_digit}
use Rattle.std.specs.Char.{digit_value}
use Rattle.std.specs.Fmt.{decimal}
use Rattle.std.specs.Prelude.{replicate}
use Rattle.std.specs.Str.Parse.{AllDigits, digits_value, digits_value_after}
use Rattle.cost_num.specs.declared.TheConstants.{CAP, PLACES, UNIT}
use Rattle.cost_num.specs.Amount.{places_of, Spells, IsAmount}
use Rattle.cost_num.specs.CostText.{last_digits, shown, amount_text}
use Rattle.cost_num.proofs.Digits.{length-last_digits}
use Rattle.cost_num.proofs.Fronts.{digits_front, digits_joined}
use Rattle.cost_num.proofs.ShownPlaces.{Shortened, shown_shortened}

value_push : (n c : ℕ) (digits : List ℕ) → digits_value_after 10 n (digits ++ (c ∷ [])) ≡ digits_value_after 10 n digits * 10 + digit_value c
value_push n c [] = refl
value_push n c (d ∷ ds) = value_push (n * 10 + digit_value d) c ds

value_of_digit : (d : ℕ) → d < 10 → digit_value (48 + d) ≡ d
value_of_digit d small = omega (arith, digit_value_digit (48 + d) (omega arith, omega arith))

digits_of_last : (places n : ℕ) → AllDigits 10 (last_digits places n)
unfolding last_digits
digits_of_last zero n = tt
digits_of_last (suc places) n = digits_joined (last_digits places (n / 10)) ((48 + n % 10) ∷ []) (digits_of_last places (n / 10)) (omega (arith, value_of_digit (n % 10) (omega arith)), tt)

value_of_last : (places n : ℕ) → n < 10 ^ places → digits_value 10 (last_digits places n) ≡ n
unfolding last_digits
value_of_last zero n small = omega arith
value_of_last (suc places) n small =
    value_push 0 (48 + n % 10) (last_digits places (n / 10))
    ∙ omega (arith, value_of_last places (n / 10) (omega arith), value_of_digit (n % 10) (omega arith))

-- the digits of places that are shown, with zeros for the others
digits_of_shown : (digits short : List ℕ) → Shortened digits short → AllDigits 10 digits → AllDigits 10 short
digits_of_shown digits short is d = digits_front short (replicate (length digits - length short) 48) (subst (AllDigits 10) (sym is.filled) d)

places_of_shown : (digits short : List ℕ) → Shortened digits short → length digits ≡ PLACES → places_of short ≡ digits
places_of_shown digits short is long =
    ap (λ front. front ++ replicate (PLACES - length short) 48) (take_all PLACES short (omega (arith, is.most)))
    ∙ ap (λ n. short ++ replicate (n - length short) 48) (sym long)
    ∙ is.filled

-- a unit has as many zeros as there are places
pub unit_by_places : UNIT ≡ 10 ^ PLACES
unit_by_places = refl

pub printed_spells : (amount : ℕ) → amount ≤ CAP → Spells (amount_text amount) amount
printed_spells amount small =
    let digits = last_digits PLACES (amount % UNIT) in
    let long : length digits ≡ PLACES = length-last_digits PLACES (amount % UNIT) in
    let short : Shortened digits (shown digits) = shown_shortened (amount % UNIT) in
    let numeral = decimal_is_IsNumeral (amount / UNIT) (omega arith) in
    let last = value_of_last PLACES (amount % UNIT) (omega (arith, unit_by_places)) in
    record {
      whole = decimal (amount / UNIT);
      fraction = shown digits;
      splits = record { digits = numeral.0; rest = inr ((omega (arith, short.least), digits_of_shown digits (shown digits) short (digits_of_last PLACES (amount % UNIT))), refl) };
      fine = λ k past inside. absurd (omega (arith, long, short.most));
      value = sym ((λ i. numeral.1 i * UNIT + digits_value 10 (places_of_shown digits (shown digits) short long i)) ∙ omega (arith, last));
    }

pub printed_read_back : (amount : ℕ) → amount ≤ CAP → IsAmount CAP (amount_text amount) amount
printed_read_back amount small = record { spells = printed_spells amount small; in_range = small }
