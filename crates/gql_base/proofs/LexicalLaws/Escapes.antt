-- An escape ends with an ASCII byte, and stands for a character.
use Rattle.std.proofs.Common.{◌≡◌, inl, inr, ℕ, ◌+◌, ◌-◌, ◌*◌, ◌<◌, ◌≤◌, Bool, true, false, ◌==◌, ◌&&◌, if◌then◌else◌, List, [], ◌∷◌, drop, get_or, refl, arith, Option, Some, None, subst}
use Rattle.std.specs.Prelude.{nat_lt}
use Rattle.std.specs.Char.{InScalarRange}
use Rattle.std.proofs.lemmas.Bool.{cases_Bool, eqb-true, and_parts}
use Rattle.std.proofs.lemmas.Bool.Decides.{nat_tests}
use Rattle.std.proofs.lemmas.List.{get_or-drop}
use Rattle.std.proofs.lemmas.Option.{none-some, same_Some}
use Rattle.gql_base.specs.declared.lexical.strings.Escape.{Escape}
use Rattle.gql_base.specs.lexical.Characters.{is_hex, hex_value}
use Rattle.gql_base.specs.lexical.Strings.{letter_escape, is_leading, is_trailing, joined}
use Rattle.gql_base.specs.lexical.Scans.{letter_at, four_digits, code_unit, escape_with, pair_with, code_escape, letter_or, escape_at}

pub IsEscape : List ℕ → Escape → Type 0
IsEscape text e = (0 < e.length) × (get_or text (e.length - 1) 0 < 128) × InScalarRange e.character

-- ---- letters

one_of : (P : ℕ → Type 0) (b : Bool) (x : ℕ) (others : Option ℕ) (f : ℕ) → (b ≡ true → P x) → (others ≡ Some f → P f) → (if b then Some x else others) ≡ Some f → P f
one_of P true x others f here later found = subst P (same_Some x f found) (here refl)
one_of P false x others f here later found = later found

Small : ℕ → ℕ → Type 0
Small b c = (b < 128) × (c < 128)

small_when : (b n c : ℕ) → n < 128 → c < 128 → (b == n) ≡ true → Small b c
unfolding Small
small_when b n c small here is = (omega (arith, eqb-true b n is, small), here)

letter_small : (b c : ℕ) → letter_escape b ≡ Some c → Small b c
letter_small b c found =
    one_of (Small b) (b == 34) 34 _ c (small_when b 34 34 (omega arith) (omega arith)) (
    one_of (Small b) (b == 92) 92 _ c (small_when b 92 92 (omega arith) (omega arith)) (
    one_of (Small b) (b == 47) 47 _ c (small_when b 47 47 (omega arith) (omega arith)) (
    one_of (Small b) (b == 98) 8 _ c (small_when b 98 8 (omega arith) (omega arith)) (
    one_of (Small b) (b == 102) 12 _ c (small_when b 102 12 (omega arith) (omega arith)) (
    one_of (Small b) (b == 110) 10 _ c (small_when b 110 10 (omega arith) (omega arith)) (
    one_of (Small b) (b == 114) 13 _ c (small_when b 114 13 (omega arith) (omega arith)) (
    one_of (Small b) (b == 116) 9 _ c (small_when b 116 9 (omega arith) (omega arith)) (
    λ none. absurd (none-some c none))))))))) found

letter_there : (text : List ℕ) (c : ℕ) → letter_at text ≡ Some c → IsEscape text (escape_with 2 c)
unfolding IsEscape Small
letter_there [] c found = absurd (none-some c found)
letter_there (a ∷ []) c found = absurd (none-some c found)
letter_there (a ∷ b ∷ rest) c found =
    elim (cases_Bool (a == 92)) [
      | inl t ↦ let small : (b < 128) × (c < 128) = letter_small b c (rw t at found) in (omega arith, small.0, inl (omega (arith, small.1)))
      | inr n ↦ absurd (none-some c (rw n at found))
    ]

-- ---- code units

hex_small : (c : ℕ) → is_hex c ≡ true → (c < 128) × (hex_value c < 16)
hex_small c is = (grind (arith, nat_tests), grind (arith, nat_tests))

digits_there : (rest : List ℕ) (n : ℕ) → four_digits rest ≡ Some n → (n < 65536) × (get_or rest 3 0 < 128)
digits_there [] n found = absurd (none-some n found)
digits_there (a ∷ []) n found = absurd (none-some n found)
digits_there (a ∷ b ∷ []) n found = absurd (none-some n found)
digits_there (a ∷ b ∷ c ∷ []) n found = absurd (none-some n found)
digits_there (a ∷ b ∷ c ∷ d ∷ rest) n found =
    elim (cases_Bool (is_hex a && is_hex b && is_hex c && is_hex d)) [
      | inl t ↦
          let first : ((is_hex a && is_hex b && is_hex c) ≡ true) × (is_hex d ≡ true) = and_parts (is_hex a && is_hex b && is_hex c) (is_hex d) t in
          let second : ((is_hex a && is_hex b) ≡ true) × (is_hex c ≡ true) = and_parts (is_hex a && is_hex b) (is_hex c) first.0 in
          let third : (is_hex a ≡ true) × (is_hex b ≡ true) = and_parts (is_hex a) (is_hex b) second.0 in
          let value : (hex_value a * 4096 + hex_value b * 256) + hex_value c * 16 + hex_value d ≡ n = same_Some _ n (rw t at found) in
          (omega (arith, value, (hex_small a third.0).1, (hex_small b third.1).1, (hex_small c second.1).1, (hex_small d first.1).1), (hex_small d first.1).0)
      | inr f ↦ absurd (none-some n (rw f at found))
    ]

unit_there : (text : List ℕ) (n : ℕ) → code_unit text ≡ Some n → (n < 65536) × (get_or text 5 0 < 128)
unit_there [] n found = absurd (none-some n found)
unit_there (a ∷ []) n found = absurd (none-some n found)
unit_there (a ∷ b ∷ rest) n found =
    elim (cases_Bool ((a == 92) && (b == 117))) [
      | inl t ↦ digits_there rest n (rw t at found)
      | inr f ↦ absurd (none-some n (rw f at found))
    ]

leading_range : (n : ℕ) → is_leading n ≡ true → (0xD800 ≤ n) × (n ≤ 0xDBFF)
leading_range n is = (grind (arith, nat_tests), grind (arith, nat_tests))

trailing_range : (n : ℕ) → is_trailing n ≡ true → (0xDC00 ≤ n) × (n ≤ 0xDFFF)
trailing_range n is = (grind (arith, nat_tests), grind (arith, nat_tests))

no_surrogate : (n : ℕ) → is_leading n ≡ false → is_trailing n ≡ false → n < 65536 → InScalarRange n
no_surrogate n first second small =
    elim (cases_Bool (nat_lt n 0xD800)) [
      | inl t ↦ inl (grind (arith, nat_tests))
      | inr f ↦ inr (grind (arith, nat_tests), omega (arith, small))
    ]

joined_range : (n m : ℕ) → is_leading n ≡ true → is_trailing m ≡ true → InScalarRange (joined n m)
joined_range n m first second =
    let a : (0xD800 ≤ n) × (n ≤ 0xDBFF) = leading_range n first in
    let b : (0xDC00 ≤ m) × (m ≤ 0xDFFF) = trailing_range m second in
    inr (omega arith, omega (arith, a.0, a.1, b.0, b.1))

pair_there : (text : List ℕ) (n : ℕ) (next : Option ℕ) (e : Escape) → is_leading n ≡ true → code_unit (drop 6 text) ≡ next → pair_with n next ≡ Some e → IsEscape text e
unfolding IsEscape
pair_there text n None e first is found = absurd (none-some e found)
pair_there text n (Some m) e first is found =
    elim (cases_Bool (is_trailing m)) [
      | inl t ↦
          let same : escape_with 12 (joined n m) ≡ e = same_Some _ e (rw t at found) in
          let last : (m < 65536) × (get_or (drop 6 text) 5 0 < 128) = unit_there (drop 6 text) m is in
          subst (IsEscape text) same (omega arith, subst (λ k. k < 128) (get_or-drop 6 text 5 0) last.1, joined_range n m first t)
      | inr f ↦ absurd (none-some e (rw f at found))
    ]

code_there : (text : List ℕ) (unit next : Option ℕ) (e : Escape) → code_unit text ≡ unit → code_unit (drop 6 text) ≡ next → code_escape unit next ≡ Some e → IsEscape text e
unfolding IsEscape
code_there text None next e first second found = absurd (none-some e found)
code_there text (Some n) next e first second found =
    elim (cases_Bool (is_leading n)) [
      | inl t ↦ pair_there text n next e t second (rw t at found)
      | inr f ↦
          elim (cases_Bool (is_trailing n)) [
            | inl t ↦ absurd (none-some e (rw (f, t) at found))
            | inr g ↦
                let same : escape_with 6 n ≡ e = same_Some _ e (rw (f, g) at found) in
                let here : (n < 65536) × (get_or text 5 0 < 128) = unit_there text n first in
                subst (IsEscape text) same (omega arith, here.1, no_surrogate n f g here.0)
          ]
    ]

letter_or_code : (text : List ℕ) (letter : Option ℕ) (e : Escape) → letter_at text ≡ letter → letter_or letter (code_escape (code_unit text) (code_unit (drop 6 text))) ≡ Some e → IsEscape text e
letter_or_code text None e is found = code_there text (code_unit text) (code_unit (drop 6 text)) e refl refl found
letter_or_code text (Some c) e is found = subst (IsEscape text) (same_Some (escape_with 2 c) e found) (letter_there text c is)

pub escape_is : (text : List ℕ) (e : Escape) → escape_at text ≡ Some e → IsEscape text e
unfolding escape_at
escape_is text e found = letter_or_code text (letter_at text) e refl found

-- no escape begins with another byte than `\`
pub no_escape : (c : ℕ) (cs : List ℕ) → (c == 92) ≡ false → escape_at (c ∷ cs) ≡ None
unfolding escape_at
no_escape c [] other = refl
no_escape c (d ∷ cs) other = rw other refl

pub escape_some : (text : List ℕ) (e : Escape) → escape_at text ≡ Some e → 0 < e.length
unfolding IsEscape
escape_some text e found = (escape_is text e found).0

pub escape_last : (text : List ℕ) (e : Escape) → escape_at text ≡ Some e → get_or text (e.length - 1) 0 < 128
unfolding IsEscape
escape_last text e found = (escape_is text e found).1

pub escape_scalar : (text : List ℕ) (e : Escape) → escape_at text ≡ Some e → InScalarRange e.character
unfolding IsEscape
escape_scalar text e found = (escape_is text e found).2
