-- The number that parsing gives is the one that a sign and digits write.
use Rattle.std.proofs.Common.{◌≡◌, ◌≢◌, inl, inr, ℕ, ◌<◌, ◌≤◌, ◌^◌, Bool, true, false, ◌==◌, ◌&&◌, not, if◌then◌else◌, List, length, drop, get_or, refl, sym, ap, ◌∙◌, arith, Result, Ok, Err, ℤ, pos, subst}
use mir.Syntax.{w128}
use mir.Val.{SFits, to_z, of_z}
use Rattle.std.proofs.lemmas.Int.{to_z-of_z}
use Rattle.std.specs.Prelude.{nat_lt, nat_le, neg_ℤ}
use Rattle.std.specs.Result.{OkIff}
use Rattle.std.specs.Str.{all_ascii_digits}
use Rattle.std.specs.Str.Parse.{ParsesSigned, digits_value}
use Rattle.std.proofs.lemmas.Bool.{cases_Bool, eqb-true, le-leb, lt-ltb, leb-true, ltb-true}
use Rattle.std.proofs.lemmas.Bool.Decides.{nat_tests}
use Rattle.std.proofs.lemmas.Str.Parse.{IsNumeralModel, numerals_by_value, tells_all_ascii_digits, parse_signed_minus, parse_signed_plain, parse_signed_plus}
use Rattle.gql_base.specs.lexical.Literals.{is_numeral, integer_value}

own : IsNumeralModel (λ ds. all_ascii_digits ds ≡ true) (digits_value 10)
own = numerals_by_value (λ ds. all_ascii_digits ds ≡ true) tells_all_ascii_digits

abbrev or_zero : {E : Type 0} → Result ℤ E → ℤ
or_zero (Ok z) = z
or_zero (Err e) = pos 0

chosen : {E : Type 0} (r : Result ℤ E) (b : Bool) (P : Type 0) (v : ℤ) → (b ≡ true → P) → (P → b ≡ true) → OkIff r P v → or_zero r ≡ (if b then v else pos 0)
chosen (Ok z) true P v to from ok = ok.1
chosen (Ok z) false P v to from ok = absurd (let no_way : false ≡ true = from ok.0 in cc)
chosen (Err e) true P v to from ok = absurd (ok (to refl))
chosen (Err e) false P v to from ok = refl

both_are : (a b c : Bool) → ((a && b) && c) ≡ true → (a ≡ true) × (b ≡ true) × (c ≡ true)
both_are true true true e = (refl, refl, refl)
both_are true true false e = absurd (cc)
both_are true false c e = absurd (cc)
both_are false b c e = absurd (cc)

are_both : (a b c : Bool) → a ≡ true → b ≡ true → c ≡ true → ((a && b) && c) ≡ true
are_both true true true e f g = refl
are_both true true false e f g = g
are_both true false c e f g = f
are_both false b c e f g = e

some_length : (n : ℕ) → not (n == 0) ≡ true → 0 < n
some_length n is = grind (arith, nat_tests)

length_some : (n : ℕ) → 0 < n → not (n == 0) ≡ true
length_some n is = grind (arith, nat_tests)

-- digits in range, by a test that decides the range
digits_or_zero : {E : Type 0} (r : Result ℤ E) (ds : List ℕ) (small : Bool) (Small : Type 0) (v : ℤ) → (small ≡ true → Small) → (Small → small ≡ true) → OkIff r ((all_ascii_digits ds ≡ true) × (0 < length ds) × Small) v → or_zero r ≡ (if is_numeral ds && small then v else pos 0)
digits_or_zero r ds small Small v to from ok =
    chosen r (is_numeral ds && small) ((all_ascii_digits ds ≡ true) × (0 < length ds) × Small) v
    (λ is. let all : (not (length ds == 0) ≡ true) × (all_ascii_digits ds ≡ true) × (small ≡ true) = both_are (not (length ds == 0)) (all_ascii_digits ds) small is in (all.1, some_length (length ds) all.0, to all.2))
    (λ facts. are_both (not (length ds == 0)) (all_ascii_digits ds) small (length_some (length ds) facts.1) facts.0 (from facts.2)) ok

minus_value : {E : Type 0} (bs : List ℕ) (r : Result ℤ E) → (get_or bs 0 0 == 45) ≡ true → ParsesSigned w128 10 bs r → or_zero r ≡ integer_value bs
minus_value {E = E} bs r is h =
    rw is (digits_or_zero r (drop 1 bs) (nat_le (digits_value 10 (drop 1 bs)) (2 ^ 127)) (digits_value 10 (drop 1 bs) ≤ 2 ^ 127) (neg_ℤ (pos (digits_value 10 (drop 1 bs))))
    (leb-true (digits_value 10 (drop 1 bs)) (2 ^ 127)) (le-leb (digits_value 10 (drop 1 bs)) (2 ^ 127))
    (parse_signed_minus own {E = E} w128 bs r h (eqb-true (get_or bs 0 0) 45 is)))

not_same : (c n : ℕ) → (c == n) ≡ false → c ≢ n
not_same c n is = λ same. grind (arith, nat_tests)

plus_value : {E : Type 0} (bs : List ℕ) (r : Result ℤ E) → (get_or bs 0 0 == 45) ≡ false → (get_or bs 0 0 == 43) ≡ true → ParsesSigned w128 10 bs r → or_zero r ≡ integer_value bs
plus_value {E = E} bs r no_minus is h =
    rw (no_minus, is) (digits_or_zero r (drop 1 bs) (nat_lt (digits_value 10 (drop 1 bs)) (2 ^ 127)) (digits_value 10 (drop 1 bs) < 2 ^ 127) (pos (digits_value 10 (drop 1 bs)))
    (ltb-true (digits_value 10 (drop 1 bs)) (2 ^ 127)) (lt-ltb (digits_value 10 (drop 1 bs)) (2 ^ 127))
    (parse_signed_plus own {E = E} w128 bs r h (eqb-true (get_or bs 0 0) 43 is)))

plain_value : {E : Type 0} (bs : List ℕ) (r : Result ℤ E) → (get_or bs 0 0 == 45) ≡ false → (get_or bs 0 0 == 43) ≡ false → ParsesSigned w128 10 bs r → or_zero r ≡ integer_value bs
plain_value {E = E} bs r no_minus no_plus h =
    rw (no_minus, no_plus) (digits_or_zero r bs (nat_lt (digits_value 10 bs) (2 ^ 127)) (digits_value 10 bs < 2 ^ 127) (pos (digits_value 10 bs))
    (ltb-true (digits_value 10 bs) (2 ^ 127)) (lt-ltb (digits_value 10 bs) (2 ^ 127))
    (parse_signed_plain own {E = E} w128 bs r h (not_same (get_or bs 0 0) 43 no_plus) (not_same (get_or bs 0 0) 45 no_minus)))

pub value_parsed : {E : Type 0} (bs : List ℕ) (r : Result ℤ E) → ParsesSigned w128 10 bs r → or_zero r ≡ integer_value bs
value_parsed bs r h =
    elim (cases_Bool (get_or bs 0 0 == 45)) [
      | inl t ↦ minus_value bs r t h
      | inr n ↦
          elim (cases_Bool (get_or bs 0 0 == 43)) [
            | inl t ↦ plus_value bs r n t h
            | inr f ↦ plain_value bs r n f h
          ]
    ]

pub value_read : {E : Type 0} (bs : List ℕ) (r : Result ℤ E) (z : ℤ) → ParsesSigned w128 10 bs r → r ≡ Ok z → z ≡ integer_value bs
value_read bs r z h is = sym (ap or_zero is) ∙ value_parsed bs r h

pub none_read : {E : Type 0} (bs : List ℕ) (r : Result ℤ E) (e : E) → ParsesSigned w128 10 bs r → r ≡ Err e → pos 0 ≡ integer_value bs
none_read bs r e h is = sym (ap or_zero is) ∙ value_parsed bs r h

fits_read : (E : Type 0) (bs : List ℕ) (z : ℤ) → ParsesSigned {E = E} w128 10 bs (Ok z) → SFits w128 z
fits_read E bs z h = subst (SFits w128) (sym h.1) h.0.1

pub number_read : {E : Type 0} (bs : List ℕ) (r : Result ℤ E) (z : ℤ) → ParsesSigned w128 10 bs r → r ≡ Ok z → to_z w128 (of_z w128 z) ≡ integer_value bs
number_read {E = E} bs r z h is = to_z-of_z w128 z (fits_read E bs z (subst (ParsesSigned w128 10 bs) is h)) ∙ value_read bs r z h is
