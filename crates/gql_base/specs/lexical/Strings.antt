-- How strings are written (GraphQL October 2021, 2.9.4): string characters between two marks. Escaped surrogate pairs
-- stand for one character, and other escaped surrogates are no characters.
use Rattle.std.specs.Prelude.{ℕ, ◌≡◌, ◌+◌, ◌-◌, ◌*◌, Bool, true, false, nat_le, ◌==◌, ◌&&◌, not, List, [], ◌∷◌, ◌++◌, if◌then◌else◌, Option, None, Some}
use Rattle.std.specs.List.{flat_map}
use Rattle.std.specs.Char.{encode_utf8}
use Rattle.gql_base.specs.lexical.Characters.{is_comment_byte, is_hex, hex_value}

-- ---- marks

-- a mark
abbrev pub begins_with_mark : List ℕ → Bool
begins_with_mark [] = false
begins_with_mark (c ∷ cs) = c == 34

-- three marks
abbrev pub begins_with_marks : List ℕ → Bool
begins_with_marks [] = false
begins_with_marks (a ∷ []) = false
begins_with_marks (a ∷ b ∷ []) = false
begins_with_marks (a ∷ b ∷ c ∷ cs) = (a == 34) && (b == 34) && (c == 34)

-- ---- escapes

-- the character that `\` and this letter stand for: `"`, `\`, `/`, backspace, form feed, line feed, carriage
-- return or tab
abbrev pub letter_escape : ℕ → Option ℕ
letter_escape c =
    if c == 34 then Some 34
    else (if c == 92 then Some 92
    else (if c == 47 then Some 47
    else (if c == 98 then Some 8
    else (if c == 102 then Some 12
    else (if c == 110 then Some 10
    else (if c == 114 then Some 13
    else (if c == 116 then Some 9
    else None)))))))

-- the first and the second number of a surrogate pair
abbrev pub is_leading : ℕ → Bool
is_leading n = nat_le 0xD800 n && nat_le n 0xDBFF

abbrev pub is_trailing : ℕ → Bool
is_trailing n = nat_le 0xDC00 n && nat_le n 0xDFFF

-- the one character of a surrogate pair
abbrev pub joined : ℕ → ℕ → ℕ
joined leading trailing = 0x10000 + ((leading - 0xD800) * 1024 + (trailing - 0xDC00))

-- ---- characters

-- four hexadecimal digits
pub record FourDigits : Type 0 where
  pub first : ℕ
  pub second : ℕ
  pub third : ℕ
  pub fourth : ℕ

-- a byte that stands for itself; `\` and a letter; `\u` and four digits; or two of these, for one character
pub data StringCharacter : Type 0 where
  plain : (byte : ℕ) → StringCharacter
  letter : (letter : ℕ) → StringCharacter
  unit : (digits : FourDigits) → StringCharacter
  surrogates : (leading trailing : FourDigits) → StringCharacter

abbrev pub unit_bytes : FourDigits → List ℕ
unit_bytes g = 92 ∷ 117 ∷ g.first ∷ g.second ∷ g.third ∷ g.fourth ∷ []

abbrev pub character_bytes : StringCharacter → List ℕ
character_bytes (plain byte) = byte ∷ []
character_bytes (letter c) = 92 ∷ c ∷ []
character_bytes (unit g) = unit_bytes g
character_bytes (surrogates g h) = unit_bytes g ++ unit_bytes h

abbrev pub are_hex : FourDigits → Bool
are_hex g = is_hex g.first && is_hex g.second && is_hex g.third && is_hex g.fourth

-- the number that four hexadecimal digits write
abbrev pub number_of : FourDigits → ℕ
number_of g = (hex_value g.first * 4096 + hex_value g.second * 256) + hex_value g.third * 16 + hex_value g.fourth

-- a tab or a byte of a character from U+0020 on, but neither `"` nor `\`
abbrev pub is_plain : ℕ → Bool
is_plain byte = is_comment_byte byte && not (byte == 34) && not (byte == 92)

abbrev pub IsCharacter : StringCharacter → Type 0
IsCharacter (plain byte) = is_plain byte ≡ true
IsCharacter (letter c) = (k : ℕ) × (letter_escape c ≡ Some k)
IsCharacter (unit g) = (are_hex g ≡ true) × (is_leading (number_of g) ≡ false) × (is_trailing (number_of g) ≡ false)
IsCharacter (surrogates g h) = (are_hex g ≡ true) × (are_hex h ≡ true) × (is_leading (number_of g) ≡ true) × (is_trailing (number_of h) ≡ true)

abbrev pub AreCharacters : List StringCharacter → Type 0
AreCharacters [] = Unit {0}
AreCharacters (c ∷ cs) = IsCharacter c × AreCharacters cs

-- the bytes of characters, one after the other
abbrev pub characters_bytes : List StringCharacter → List ℕ
characters_bytes = flat_map character_bytes

-- These characters are the body of a string.
pub record IsBody (cs : List StringCharacter) (body : List ℕ) : Type 0 where
  pub cut : body ≡ characters_bytes cs
  pub are : AreCharacters cs

-- what characters stand for, in UTF-8

abbrev pub letter_value : Option ℕ → List ℕ
letter_value None = []
letter_value (Some k) = encode_utf8 k

abbrev pub character_value : StringCharacter → List ℕ
character_value (plain byte) = byte ∷ []
character_value (letter c) = letter_value (letter_escape c)
character_value (unit g) = encode_utf8 (number_of g)
character_value (surrogates g h) = encode_utf8 (joined (number_of g) (number_of h))

abbrev pub characters_value : List StringCharacter → List ℕ
characters_value = flat_map character_value
