-- What is shown within a line.
use Rattle.std.proofs.Common.{◌≡◌, ◌<◌, ◌≤◌, inl, inr, ℕ, zero, suc, Bool, true, false, not, ◌&&◌, ◌||◌, nat_le, List, [], ◌∷◌, ◌++◌, length, get_or, refl, sym, ap, ap₂, ◌∙◌, subst, arith, append_assoc, append-nil, true≢false}
use Rattle.std.specs.Prelude.{◌+◌, ◌-◌, cond, nat_lt, if◌then◌else◌, Result, Ok, Err, OnOk, is_ok}
use Rattle.std.specs.Char.{digit_char, encode_utf8, is_ascii_control, to_ascii_uppercase}
use Rattle.std.specs.Int.{is_in_range}
use Rattle.std.specs.List.{flat_map, list_all}
use Rattle.std.proofs.lemmas.Bool.{cases_Bool, cases_lt, and_parts, leb-true}
use Rattle.std.proofs.lemmas.Grind.{flat_map-append}
use Rattle.std.proofs.lemmas.List.Folds.{list_all-append}
use Rattle.std.proofs.lemmas.Str.{encode_ascii, inside_one}
use Rattle.gql_base.specs.printing.OneLine.{control_number, shown_byte, shown_in_line, is_one_line}
use Rattle.gql_base.specs.printing.Printing.{upper_digit, escape_number, numbered}

abbrev plain : ℕ → Bool
plain c = not (is_ascii_control c)

or_second : (a b : Bool) → a ≡ false → (a || b) ≡ true → b ≡ true
or_second a b none some = subst (λ x. (x || b) ≡ true) none some

both : (a b : Bool) → a ≡ true → b ≡ true → (a && b) ≡ true
both a b p q = ap₂ (λ (x y : Bool). x && y) p q

plain_or : (c : ℕ) → plain c ≡ true → is_ascii_control c ≡ false
plain_or c e = elim (cases_Bool (is_ascii_control c)) [
  | inl control ↦ absurd (true≢false (sym e ∙ ap not control))
  | inr other ↦ other
]

pub control_small : (c : ℕ) → is_ascii_control c ≡ true → c < 128
control_small c e = elim (cases_Bool (is_in_range 0 31 c)) [
  | inl low ↦ let h = leb-true c 31 (and_parts (nat_le 0 c) (nat_le c 31) low).1 in omega (arith, h)
  | inr high ↦ let h = leb-true c 127 (and_parts (nat_le 127 c) (nat_le c 127) (or_second (is_in_range 0 31 c) (is_in_range 127 127 c) high e)).1 in omega (arith, h)
]

high_plain : (c : ℕ) → 128 ≤ c → plain c ≡ true
high_plain c h = elim (cases_Bool (is_ascii_control c)) [
  | inl control ↦ let small = control_small c control in absurd (omega (arith, h, small))
  | inr other ↦ ap not other
]

-- the numbers of control characters hold none
abbrev plain_below : ℕ → Bool
plain_below zero = true
plain_below (suc n) = list_all plain (control_number n) && plain_below n

plain_at : (n : ℕ) → plain_below n ≡ true → (c : ℕ) → c < n → list_all plain (control_number c) ≡ true
plain_at zero all c h = absurd (omega (arith, h))
plain_at (suc n) all c h =
    let parts = and_parts (list_all plain (control_number n)) (plain_below n) all in
    elim (cases_lt c n) [
      | inl below ↦ plain_at n parts.1 c below
      | inr here ↦ let same : n ≡ c = omega (arith, h, here) in subst (λ k. list_all plain (control_number k) ≡ true) same parts.0
    ]

number_plain : (c : ℕ) → c < 128 → list_all plain (control_number c) ≡ true
number_plain = plain_at 128 refl

shown_as_number : (c : ℕ) → is_ascii_control c ≡ true → shown_byte c ≡ control_number c
shown_as_number c e = rw e refl

shown_as_is : (c : ℕ) → is_ascii_control c ≡ false → shown_byte c ≡ c ∷ []
shown_as_is c e = rw e refl

byte_plain : (c : ℕ) → list_all plain (shown_byte c) ≡ true
byte_plain c = elim (cases_Bool (is_ascii_control c)) [
  | inl control ↦ ap (list_all plain) (shown_as_number c control) ∙ number_plain c (control_small c control)
  | inr other ↦ ap (list_all plain) (shown_as_is c other) ∙ both (plain c) true (ap not other) refl
]

pub shown_is_one_line : (text : List ℕ) → is_one_line (shown_in_line text) ≡ true
unfolding shown_in_line is_one_line
shown_is_one_line [] = refl
shown_is_one_line (c ∷ text) = list_all-append plain (shown_byte c) (flat_map shown_byte text) ∙ both (list_all plain (shown_byte c)) (list_all plain (flat_map shown_byte text)) (byte_plain c) (shown_is_one_line text)

pub one_line_kept : (text : List ℕ) → is_one_line text ≡ true → shown_in_line text ≡ text
unfolding shown_in_line is_one_line
one_line_kept [] e = refl
one_line_kept (c ∷ text) e =
    let parts = and_parts (plain c) (list_all plain text) e in
    ap₂ (λ (a b : List ℕ). a ++ b) (shown_as_is c (plain_or c parts.0)) (one_line_kept text parts.1)

pub lines_joined : (front back : List ℕ) → is_one_line front ≡ true → is_one_line back ≡ true → is_one_line (front ++ back) ≡ true
unfolding is_one_line
lines_joined front back p q = list_all-append plain front back ∙ both (list_all plain front) (list_all plain back) p q

-- ---- character by character

high_line : (xs : List ℕ) → ((k : ℕ) → k < length xs → 128 ≤ get_or xs k 0) → is_one_line xs ≡ true
unfolding is_one_line
high_line [] h = refl
high_line (x ∷ xs) h = both (plain x) (list_all plain xs) (high_plain x (h 0 (omega arith))) (high_line xs (λ k below. h (suc k) (omega (arith, below))))

encoded_line : (c : ℕ) → is_ascii_control c ≡ false → is_one_line (encode_utf8 c) ≡ true
unfolding is_one_line
encoded_line c other = elim (cases_lt c 128) [
  | inl small ↦ ap is_one_line (encode_ascii c small) ∙ both (plain c) true (ap not other) refl
  | inr big ↦ high_line (encode_utf8 c) (λ k below. elim (cases_lt (get_or (encode_utf8 c) k 0) 128) [
    | inl low ↦ let same = inside_one c [] (encode_utf8 c) k (sym (append-nil (encode_utf8 c))) below low in absurd (omega (arith, big, low, same))
    | inr high ↦ high
  ])
]

pub character_as_is : (c : ℕ) → is_ascii_control c ≡ false → shown_in_line (encode_utf8 c) ≡ encode_utf8 c
character_as_is c other = one_line_kept (encode_utf8 c) (encoded_line c other)

pub character_as_number : (c : ℕ) → is_ascii_control c ≡ true → shown_in_line (encode_utf8 c) ≡ control_number c
unfolding shown_in_line
character_as_number c control =
    ap (flat_map shown_byte) (encode_ascii c (control_small c control)) ∙ (append-nil (shown_byte c) ∙ shown_as_number c control)

pub shown_step : (before now whole : List ℕ) (text rest : List ℕ) (c : ℕ) → text ≡ encode_utf8 c ++ rest → now ≡ before ++ shown_in_line (encode_utf8 c) → before ++ shown_in_line text ≡ whole → now ++ shown_in_line rest ≡ whole
unfolding shown_in_line
shown_step before now whole text rest c parts more so_far =
    ap (λ xs. xs ++ flat_map shown_byte rest) more
    ∙ (append_assoc before (flat_map shown_byte (encode_utf8 c)) (flat_map shown_byte rest)
    ∙ (ap (λ xs. before ++ xs) (sym (flat_map-append shown_byte (encode_utf8 c) rest) ∙ ap (flat_map shown_byte) (sym parts)) ∙ so_far))

pub shown_end : (now whole text : List ℕ) → length text ≡ 0 → now ++ shown_in_line text ≡ whole → now ≡ whole
unfolding shown_in_line
shown_end now whole [] none so_far = sym (append-nil now) ∙ so_far
shown_end now whole (c ∷ text) none so_far = absurd (omega (arith, none))

-- ---- what is written of a character

pub pushed_where_ok : {A E : Type 0} (r : Result A E) (new old more : List ℕ) → new ≡ (if is_ok r then old ++ more else old) → OnOk r (new ≡ old ++ more)
pushed_where_ok (Ok x) new old more is = is
pushed_where_ok (Err e) new old more is = tt

digit_small : (d : ℕ) → d < 16 → digit_char d < 128
digit_small d h = elim (cases_Bool (nat_lt d 10)) [
  | inl low ↦ subst (λ b. cond b (48 + d) (87 + d) < 128) (sym low) (omega (arith, h))
  | inr high ↦ subst (λ b. cond b (48 + d) (87 + d) < 128) (sym high) (omega (arith, h))
]

-- a character of ASCII
pub ascii_pushed : {A E : Type 0} (r : Result A E) (new old : List ℕ) (c d : ℕ) → d < 128 → c ≡ d → new ≡ (if is_ok r then old ++ encode_utf8 c else old) → OnOk r (new ≡ old ++ d ∷ [])
ascii_pushed r new old c d small is pushed =
    subst (λ xs. OnOk r (new ≡ old ++ xs)) (ap encode_utf8 is ∙ encode_ascii d small) (pushed_where_ok r new old (encode_utf8 c) pushed)

pub digit_pushed : {A E : Type 0} (r : Result A E) (new old : List ℕ) (c d : ℕ) → d < 16 → c ≡ digit_char d → new ≡ (if is_ok r then old ++ encode_utf8 c else old) → OnOk r (new ≡ old ++ digit_char d ∷ [])
digit_pushed r new old c d h is pushed = ascii_pushed r new old c (digit_char d) (digit_small d h) is pushed

-- ---- what is printed of a character in a string

upper_small : (c : ℕ) → c < 128 → to_ascii_uppercase c < 128
upper_small c h = elim (cases_Bool (nat_lt c 97)) [
  | inl low ↦ rw low h
  | inr high ↦ elim (cases_Bool (nat_lt c 123)) [
    | inl letter ↦ rw (high, letter) (omega (arith, h))
    | inr other ↦ rw (high, other) h
  ]
]

pub upper_pushed : {A E : Type 0} (r : Result A E) (new old : List ℕ) (c u d : ℕ) → d < 16 → c ≡ digit_char d → u ≡ to_ascii_uppercase c → new ≡ (if is_ok r then old ++ encode_utf8 u else old)
    → OnOk r (new ≡ old ++ upper_digit d ∷ [])
upper_pushed r new old c u d h is upper pushed = ascii_pushed r new old u (upper_digit d) (upper_small (digit_char d) (digit_small d h)) (upper ∙ ap to_ascii_uppercase is) pushed

pub numbered_control : (c : ℕ) → is_ascii_control c ≡ true → numbered c ≡ escape_number c
numbered_control c is = rw is refl

pub numbered_plain : (c : ℕ) → is_ascii_control c ≡ false → numbered c ≡ encode_utf8 c
numbered_plain c is = rw is refl
