-- An escaped string is what may stand between the marks of a string, and it stands for what was escaped.
use Rattle.std.proofs.Common.{◌≡◌, ◌⊎◌, inl, inr, ℕ, zero, suc, ◌+◌, ◌*◌, ◌<◌, ◌≤◌, Bool, true, false, not, ◌==◌, ◌&&◌, List, [], ◌∷◌, ◌++◌, length, get_or, IsUtf8, refl, sym, ap, ◌∙◌, arith, Option, Some, None, subst, nat_le, append_assoc, append-nil}
use Rattle.std.specs.Prelude.{◌/◌, ◌%◌}
use Rattle.std.specs.List.{AllPass, flat_map}
use Rattle.std.specs.Char.{encode_utf8, is_ascii_control}
use Rattle.std.specs.Str.{chars}
use Rattle.std.proofs.Math.Utf8.{encode, encodes, scalar, scalars}
use Rattle.std.proofs.lemmas.Bool.{cases_Bool, cases_lt, eqb-true, and_parts}
use Rattle.std.proofs.lemmas.Bool.Decides.{nat_tests}
use Rattle.std.proofs.lemmas.List.{length-append}
use Rattle.std.proofs.lemmas.List.Elements.{All-nil, All-cons, All-head, All-tail}
use Rattle.std.proofs.lemmas.Str.{IsUtf8-nil, IsUtf8-append, IsUtf8-encode, encode_ascii, inside_one, encodes-chars, scalars-chars}
use Rattle.gql_base.specs.lexical.Characters.{is_line_end, is_comment_byte, is_hex, hex_value}
use Rattle.gql_base.specs.lexical.Strings.{begins_with_marks, letter_escape, is_leading, is_trailing}
use Rattle.gql_base.specs.lexical.Scans.{closed_at, code_unit, escape_with, code_escape, escape_at, text_step, text_fault, text_value}
use Rattle.gql_base.specs.printing.Printing.{upper_digit, escape_number, numbered, escaped, all_escaped}
use Rattle.gql_base.proofs.LexicalLaws.Escapes.{no_escape}
use Rattle.gql_base.proofs.LexicalLaws.StringValues.{value_alone, value_escape}
use Rattle.gql_base.proofs.PrintingLaws.OneLine.{control_small, numbered_control, numbered_plain}

-- ---- bytes between marks

-- Bytes that stand for others wherever they stand between the marks of a string.
pub record StandsFor (xs ys : List ℕ) : Type 0 where
  pub sound : (at : ℕ) (rest : List ℕ) → text_fault 0 at (xs ++ rest) ≡ text_fault 0 (at + length xs) rest
  pub unclosed : (at : ℕ) (rest : List ℕ) → closed_at false at (xs ++ rest) ≡ closed_at false (at + length xs) rest
  pub value : (rest : List ℕ) → text_value 0 (xs ++ rest) ≡ ys ++ text_value 0 rest
  pub first : (get_or xs 0 0 == 34) ≡ false

stands_nil : StandsFor [] []
stands_nil = record {
  sound = λ at rest. ap (λ n. text_fault 0 n rest) (let e : at ≡ at + 0 = omega arith in e);
  unclosed = λ at rest. ap (λ n. closed_at false n rest) (let e : at ≡ at + 0 = omega arith in e);
  value = λ rest. refl;
  first = refl;
}

first_of : (xs ys : List ℕ) → (get_or xs 0 0 == 34) ≡ false → (get_or ys 0 0 == 34) ≡ false → (get_or (xs ++ ys) 0 0 == 34) ≡ false
first_of [] ys a b = b
first_of (x ∷ xs) ys a b = a

stands_append : (a b c d : List ℕ) → StandsFor a b → StandsFor c d → StandsFor (a ++ c) (b ++ d)
stands_append a b c d f g =
    let place : (at : ℕ) → at + length a + length c ≡ at + length (a ++ c) = λ at. omega (arith, length-append a c) in
    record {
      sound = λ at rest. ap (text_fault 0 at) (append_assoc a c rest) ∙ f.sound at (c ++ rest) ∙ g.sound (at + length a) rest ∙ ap (λ n. text_fault 0 n rest) (place at);
      unclosed = λ at rest. ap (closed_at false at) (append_assoc a c rest) ∙ f.unclosed at (c ++ rest) ∙ g.unclosed (at + length a) rest ∙ ap (λ n. closed_at false n rest) (place at);
      value = λ rest. ap (text_value 0) (append_assoc a c rest) ∙ f.value (c ++ rest) ∙ ap (λ xs. b ++ xs) (g.value rest) ∙ sym (append_assoc b d (text_value 0 rest));
      first = first_of a c f.first g.first;
    }

-- a byte that stands for itself
abbrev stands_alone : ℕ → Bool
stands_alone c = nat_le 32 c && not (c == 34) && not (c == 92)

alone_tests : (c : ℕ) → stands_alone c ≡ true → ((c == 34) ≡ false) × ((c == 92) ≡ false) × (is_line_end c ≡ false) × (is_comment_byte c ≡ true)
alone_tests c is = (grind (arith, nat_tests), grind (arith, nat_tests), grind (arith, nat_tests), grind (arith, nat_tests))

alone_step : (c : ℕ) (cs : List ℕ) → (c == 92) ≡ false → is_comment_byte c ≡ true → text_step (c ∷ cs) ≡ 1
unfolding text_step
alone_step c cs other good = rw (no_escape c cs other) (rw (other, good) refl)

pub alone_sound : (c at : ℕ) (cs : List ℕ) → (c == 92) ≡ false → is_comment_byte c ≡ true → text_fault 0 at (c ∷ cs) ≡ text_fault 0 (at + 1) cs
unfolding text_fault
alone_sound c at cs other good = rw (alone_step c cs other good) refl

pub alone_open : (c at : ℕ) (cs : List ℕ) → (c == 34) ≡ false → (c == 92) ≡ false → is_line_end c ≡ false → closed_at false at (c ∷ cs) ≡ closed_at false (at + 1) cs
unfolding closed_at
alone_open c at cs mark other same_line = rw (mark, same_line, other) refl

stands_byte : (c : ℕ) → stands_alone c ≡ true → StandsFor (c ∷ []) (c ∷ [])
stands_byte c is =
    let t = alone_tests c is in
    record {
      sound = λ at rest. alone_sound c at rest t.1 t.3;
      unclosed = λ at rest. alone_open c at rest t.0 t.1 t.2;
      value = λ rest. value_alone c rest (no_escape c rest t.1);
      first = t.0;
    }

stands_bytes : (xs : List ℕ) → AllPass stands_alone xs → StandsFor xs xs
stands_bytes [] all = stands_nil
stands_bytes (x ∷ xs) all =
    stands_append (x ∷ []) (x ∷ []) xs xs (stands_byte x (All-head (λ c. stands_alone c ≡ true) x xs all)) (stands_bytes xs (All-tail (λ c. stands_alone c ≡ true) x xs all))

-- `\` and a letter
pub letter_found : (letter c : ℕ) (rest : List ℕ) → letter_escape letter ≡ Some c → escape_at (92 ∷ letter ∷ rest) ≡ Some (escape_with 2 c)
unfolding escape_at
letter_found letter c rest is = rw is refl

letter_sound : (letter c at : ℕ) (rest : List ℕ) → letter_escape letter ≡ Some c → text_fault 0 at (92 ∷ letter ∷ rest) ≡ text_fault 0 (at + 2) rest
unfolding text_fault text_step
letter_sound letter c at rest is = rw (letter_found letter c rest is) (ap (λ n. text_fault 0 n rest) (let e : at + 1 + 1 ≡ at + 2 = omega arith in e))

letter_open : (letter at : ℕ) (rest : List ℕ) → is_line_end letter ≡ false → closed_at false at (92 ∷ letter ∷ rest) ≡ closed_at false (at + 2) rest
unfolding closed_at
letter_open letter at rest same_line = rw same_line (ap (λ n. closed_at false n rest) (let e : at + 1 + 1 ≡ at + 2 = omega arith in e))

stands_letter : (letter c : ℕ) → letter_escape letter ≡ Some c → is_line_end letter ≡ false → StandsFor (92 ∷ letter ∷ []) (encode_utf8 c)
stands_letter letter c is same_line = record {
  sound = λ at rest. letter_sound letter c at rest is;
  unclosed = λ at rest. letter_open letter at rest same_line;
  value = λ rest. value_escape 92 (letter ∷ rest) (escape_with 2 c) (letter_found letter c rest is);
  first = refl;
}

-- ---- a control character by its number

-- the last two digits of the number of a control character are its own
abbrev is_own : ℕ → Bool
is_own c = is_hex (upper_digit (c / 16)) && (is_hex (upper_digit (c % 16)) && ((hex_value (upper_digit (c / 16)) * 16 + hex_value (upper_digit (c % 16))) == c))

abbrev own_below : ℕ → Bool
own_below zero = true
own_below (suc n) = is_own n && own_below n

own_at : (n : ℕ) → own_below n ≡ true → (c : ℕ) → c < n → is_own c ≡ true
own_at zero all c below = absurd (omega (arith, below))
own_at (suc n) all c below =
    let parts = and_parts (is_own n) (own_below n) all in
    elim (cases_lt c n) [
      | inl less ↦ own_at n parts.1 c less
      | inr here ↦ let same : n ≡ c = omega (arith, below, here) in subst (λ k. is_own k ≡ true) same parts.0
    ]

-- `\u00` and two digits
record HasDigits (c : ℕ) : Type 0 where
  first : is_hex (upper_digit (c / 16)) ≡ true
  second : is_hex (upper_digit (c % 16)) ≡ true
  meant : hex_value (upper_digit (c / 16)) * 16 + hex_value (upper_digit (c % 16)) ≡ c

digits_of : (c : ℕ) → c < 128 → HasDigits c
digits_of c small =
    let all = and_parts (is_hex (upper_digit (c / 16))) _ (own_at 128 refl c small) in
    let rest = and_parts (is_hex (upper_digit (c % 16))) _ all.1 in
    record { first = all.0; second = rest.0; meant = eqb-true _ c rest.1 }

no_leading : (c : ℕ) → c < 128 → is_leading c ≡ false
no_leading c small = grind (arith, nat_tests)

no_trailing : (c : ℕ) → c < 128 → is_trailing c ≡ false
no_trailing c small = grind (arith, nat_tests)

unit_alone : (c : ℕ) (next : Option ℕ) → c < 128 → code_escape (Some c) next ≡ Some (escape_with 6 c)
unit_alone c next small = rw (no_leading c small) (rw (no_trailing c small) refl)

unit_found : (a b c : ℕ) (rest : List ℕ) → is_hex a ≡ true → is_hex b ≡ true → hex_value a * 16 + hex_value b ≡ c → c < 128 → escape_at (92 ∷ 117 ∷ 48 ∷ 48 ∷ a ∷ b ∷ rest) ≡ Some (escape_with 6 c)
unfolding escape_at
unit_found a b c rest first second meant small =
    let value : (0 * 4096 + 0 * 256) + hex_value a * 16 + hex_value b ≡ c = omega (arith, meant) in
    rw first (rw second (ap (λ n. code_escape (Some n) (code_unit rest)) value ∙ unit_alone c (code_unit rest) small))

hex_alone : (c : ℕ) → is_hex c ≡ true → ((c == 34) ≡ false) × ((c == 92) ≡ false) × (is_line_end c ≡ false) × (c < 128)
hex_alone c is = (grind (arith, nat_tests), grind (arith, nat_tests), grind (arith, nat_tests), grind (arith, nat_tests))

unit_sound : (a b c at : ℕ) (rest : List ℕ) → escape_at (92 ∷ 117 ∷ 48 ∷ 48 ∷ a ∷ b ∷ rest) ≡ Some (escape_with 6 c) → text_fault 0 at (92 ∷ 117 ∷ 48 ∷ 48 ∷ a ∷ b ∷ rest) ≡ text_fault 0 (at + 6) rest
unfolding text_fault text_step
unit_sound a b c at rest found = rw found (ap (λ n. text_fault 0 n rest) (let e : at + 1 + 1 + 1 + 1 + 1 + 1 ≡ at + 6 = omega arith in e))

unit_open : (a b at : ℕ) (rest : List ℕ) → is_hex a ≡ true → is_hex b ≡ true → closed_at false at (92 ∷ 117 ∷ 48 ∷ 48 ∷ a ∷ b ∷ rest) ≡ closed_at false (at + 6) rest
unfolding closed_at
unit_open a b at rest first second =
    let h = hex_alone a first in
    let k = hex_alone b second in
    alone_open a (at + 1 + 1 + 1 + 1) (b ∷ rest) h.0 h.1 h.2 ∙ alone_open b (at + 1 + 1 + 1 + 1 + 1) rest k.0 k.1 k.2
    ∙ ap (λ n. closed_at false n rest) (let e : at + 1 + 1 + 1 + 1 + 1 + 1 ≡ at + 6 = omega arith in e)

stands_number : (c : ℕ) → c < 128 → StandsFor (escape_number c) (encode_utf8 c)
stands_number c small =
    let d : HasDigits c = digits_of c small in
    let found : (rest : List ℕ) → escape_at (92 ∷ 117 ∷ 48 ∷ 48 ∷ upper_digit (c / 16) ∷ upper_digit (c % 16) ∷ rest) ≡ Some (escape_with 6 c) =
    λ rest. unit_found (upper_digit (c / 16)) (upper_digit (c % 16)) c rest d.first d.second d.meant small in
    record {
      sound = λ at rest. unit_sound (upper_digit (c / 16)) (upper_digit (c % 16)) c at rest (found rest);
      unclosed = λ at rest. unit_open (upper_digit (c / 16)) (upper_digit (c % 16)) at rest d.first d.second;
      value = λ rest. value_escape 92 (117 ∷ 48 ∷ 48 ∷ upper_digit (c / 16) ∷ upper_digit (c % 16) ∷ rest) (escape_with 6 c) (found rest);
      first = refl;
    }

-- ---- escaped characters

-- an escape by a letter, one by a number, or the character's own bytes
record HasLetter (c : ℕ) : Type 0 where
  letter : ℕ
  is : escaped c ≡ 92 ∷ letter ∷ []
  meant : letter_escape letter ≡ Some c
  same_line : is_line_end letter ≡ false
  small : letter < 128

record HasNumber (c : ℕ) : Type 0 where
  is : escaped c ≡ escape_number c
  small : c < 128

record HasNone (c : ℕ) : Type 0 where
  is : escaped c ≡ encode_utf8 c
  no_mark : (c == 34) ≡ false
  no_escape_mark : (c == 92) ≡ false
  high : 32 ≤ c

-- a character without an escape by a letter
numbered_or_none : (c : ℕ) → escaped c ≡ numbered c → (c == 34) ≡ false → (c == 92) ≡ false → HasNumber c ⊎ HasNone c
numbered_or_none c is no_mark no_escape_mark =
    elim (cases_Bool (is_ascii_control c)) [
      | inl control ↦ inl (record { is = is ∙ numbered_control c control; small = control_small c control })
      | inr plain ↦ inr (record { is = is ∙ numbered_plain c plain; no_mark = no_mark; no_escape_mark = no_escape_mark; high = not_below plain })
    ]
  where
    not_below : is_ascii_control c ≡ false → 32 ≤ c
    not_below plain = grind (arith, nat_tests)

letter_or_none : (c : ℕ) → HasLetter c ⊎ (HasNumber c ⊎ HasNone c)
letter_or_none c =
    elim (cases_Bool (c == 34)) [
      | inl t ↦ inl (at 34 (eqb-true c 34 t) (record { letter = 34; is = refl; meant = refl; same_line = refl; small = omega arith }))
      | inr f34 ↦ elim (cases_Bool (c == 92)) [
        | inl t ↦ inl (at 92 (eqb-true c 92 t) (record { letter = 92; is = refl; meant = refl; same_line = refl; small = omega arith }))
        | inr f92 ↦ elim (cases_Bool (c == 10)) [
          | inl t ↦ inl (at 10 (eqb-true c 10 t) (record { letter = 110; is = refl; meant = refl; same_line = refl; small = omega arith }))
          | inr f10 ↦ elim (cases_Bool (c == 13)) [
            | inl t ↦ inl (at 13 (eqb-true c 13 t) (record { letter = 114; is = refl; meant = refl; same_line = refl; small = omega arith }))
            | inr f13 ↦ elim (cases_Bool (c == 9)) [
              | inl t ↦ inl (at 9 (eqb-true c 9 t) (record { letter = 116; is = refl; meant = refl; same_line = refl; small = omega arith }))
              | inr f9 ↦ elim (cases_Bool (c == 8)) [
                | inl t ↦ inl (at 8 (eqb-true c 8 t) (record { letter = 98; is = refl; meant = refl; same_line = refl; small = omega arith }))
                | inr f8 ↦ elim (cases_Bool (c == 12)) [
                  | inl t ↦ inl (at 12 (eqb-true c 12 t) (record { letter = 102; is = refl; meant = refl; same_line = refl; small = omega arith }))
                  | inr f12 ↦ inr (numbered_or_none c (rw (f34, f92, f10, f13, f9, f8, f12) refl) f34 f92)
                ]
              ]
            ]
          ]
        ]
      ]
    ]
  where
    at : (n : ℕ) → c ≡ n → HasLetter n → HasLetter c
    at n e h = subst HasLetter (sym e) h

pub all_from : (f : ℕ → Bool) (xs : List ℕ) → ((k : ℕ) → k < length xs → f (get_or xs k 0) ≡ true) → AllPass f xs
all_from f [] each = All-nil (λ c. f c ≡ true)
all_from f (x ∷ xs) each = All-cons (λ c. f c ≡ true) x xs (each 0 (omega arith)) (all_from f xs (λ k below. each (suc k) (omega (arith, below))))

-- a byte of a character is the character, or none of ASCII
pub own_byte : (c k : ℕ) → k < length (encode c) → (get_or (encode c) k 0 ≡ c) ⊎ (128 ≤ get_or (encode c) k 0)
own_byte c k below =
    elim (cases_lt (get_or (encode c) k 0) 128) [
      | inl low ↦ inl (sym (inside_one c [] (encode c) k (sym (append-nil (encode c))) below low))
      | inr high ↦ inr high
    ]

high_alone : (b : ℕ) → 128 ≤ b → stands_alone b ≡ true
high_alone b high = grind (arith, nat_tests)

low_alone : (b : ℕ) → 32 ≤ b → (b == 34) ≡ false → (b == 92) ≡ false → stands_alone b ≡ true
low_alone b high mark escape = grind (arith, nat_tests)

bytes_alone : (c : ℕ) → 32 ≤ c → (c == 34) ≡ false → (c == 92) ≡ false → AllPass stands_alone (encode c)
bytes_alone c high mark escape =
    all_from stands_alone (encode c)
    (λ k below. elim (own_byte c k below) [
      | inl same ↦ rw same (low_alone c high mark escape)
      | inr big ↦ high_alone (get_or (encode c) k 0) big
    ])

stands_character : (c : ℕ) → StandsFor (escaped c) (encode c)
stands_character c =
    elim (letter_or_none c) [
      | inl h ↦ subst (λ xs. StandsFor xs (encode c)) (sym h.is) (stands_letter h.letter c h.meant h.same_line)
      | inr (inl h) ↦ subst (λ xs. StandsFor xs (encode c)) (sym h.is) (stands_number c h.small)
      | inr (inr h) ↦ subst (λ xs. StandsFor xs (encode c)) (sym h.is) (stands_bytes (encode c) (bytes_alone c h.high h.no_mark h.no_escape_mark))
    ]

-- ---- escaped strings

stands_characters : (cs : List ℕ) → StandsFor (flat_map escaped cs) (encodes cs)
stands_characters [] = stands_nil
stands_characters (c ∷ cs) = stands_append (escaped c) (encode c) (flat_map escaped cs) (encodes cs) (stands_character c) (stands_characters cs)

pub escaped_stands : (v : List ℕ) → IsUtf8 v → StandsFor (all_escaped v) v
escaped_stands v utf8 = subst (StandsFor (all_escaped v)) (encodes-chars v utf8) (stands_characters (chars v))

-- between marks
pub escaped_sound : (v : List ℕ) → IsUtf8 v → text_fault 0 1 (all_escaped v) ≡ None
unfolding text_fault
escaped_sound v utf8 = ap (text_fault 0 1) (sym (append-nil (all_escaped v))) ∙ (escaped_stands v utf8).sound 1 []

pub escaped_value : (v : List ℕ) → IsUtf8 v → text_value 0 (all_escaped v) ≡ v
unfolding text_value
escaped_value v utf8 = ap (text_value 0) (sym (append-nil (all_escaped v))) ∙ (escaped_stands v utf8).value [] ∙ append-nil v

pub escaped_closed : (v after : List ℕ) → IsUtf8 v → closed_at false 1 (all_escaped v ++ 34 ∷ after) ≡ Some (1 + length (all_escaped v))
unfolding closed_at
escaped_closed v after utf8 = (escaped_stands v utf8).unclosed 1 (34 ∷ after)

no_marks : (xs after : List ℕ) → (get_or xs 0 0 == 34) ≡ false → (get_or after 0 0 == 34) ≡ false → begins_with_marks (34 ∷ (xs ++ 34 ∷ after)) ≡ false
no_marks [] [] first next = refl
no_marks [] (a ∷ after) first next = rw next refl
no_marks (x ∷ []) after first next = rw first refl
no_marks (x ∷ y ∷ xs) after first next = rw first refl

pub escaped_single : (v after : List ℕ) → IsUtf8 v → (get_or after 0 0 == 34) ≡ false → begins_with_marks (34 ∷ (all_escaped v ++ 34 ∷ after)) ≡ false
escaped_single v after utf8 next = no_marks (all_escaped v) after (escaped_stands v utf8).first next

-- ---- in UTF-8

pub utf8_ascii : (c : ℕ) (rest : List ℕ) → c < 128 → IsUtf8 rest → IsUtf8 (c ∷ rest)
utf8_ascii c rest low utf8 = IsUtf8-append (c ∷ []) rest (subst IsUtf8 (encode_ascii c low) (IsUtf8-encode c (ascii_scalar c low))) utf8
  where
    ascii_scalar : (n : ℕ) → n < 128 → scalar n ≡ true
    ascii_scalar n small = grind (arith, nat_tests)

number_utf8 : (c : ℕ) → HasDigits c → IsUtf8 (escape_number c)
number_utf8 c d =
    utf8_ascii 92 _ (omega arith) (utf8_ascii 117 _ (omega arith) (utf8_ascii 48 _ (omega arith) (utf8_ascii 48 _ (omega arith)
    (utf8_ascii (upper_digit (c / 16)) _ (hex_alone (upper_digit (c / 16)) d.first).3 (utf8_ascii (upper_digit (c % 16)) [] (hex_alone (upper_digit (c % 16)) d.second).3 IsUtf8-nil)))))

utf8_character : (c : ℕ) → scalar c ≡ true → IsUtf8 (escaped c)
utf8_character c is =
    elim (letter_or_none c) [
      | inl h ↦ subst IsUtf8 (sym h.is) (utf8_ascii 92 (h.letter ∷ []) (omega arith) (utf8_ascii h.letter [] h.small IsUtf8-nil))
      | inr (inl h) ↦ subst IsUtf8 (sym h.is) (number_utf8 c (digits_of c h.small))
      | inr (inr h) ↦ subst IsUtf8 (sym h.is) (IsUtf8-encode c is)
    ]

utf8_characters : (cs : List ℕ) → scalars cs ≡ true → IsUtf8 (flat_map escaped cs)
utf8_characters [] all = IsUtf8-nil
utf8_characters (c ∷ cs) all =
    let p = and_parts (scalar c) (scalars cs) all in
    IsUtf8-append (escaped c) (flat_map escaped cs) (utf8_character c p.0) (utf8_characters cs p.1)

pub escaped_utf8 : (v : List ℕ) → IsUtf8 v → IsUtf8 (all_escaped v)
escaped_utf8 v utf8 = utf8_characters (chars v) (scalars-chars v utf8)
