-- Where strings and block strings are closed, and the faults inside those that are.
use Rattle.std.specs.Prelude.{ℕ, ◌≡◌, ◌⊎◌, ◌+◌, true, false, ◌==◌, List, [], ◌∷◌, ◌++◌, length}
use Rattle.std.specs.List.{AllPass, flat_map}
use Rattle.gql_base.specs.declared.lexical.lexing.LexFault.{LexFault}
use Rattle.gql_base.specs.declared.lexical.lexing.LexFault.TheVariants.{BadChar, BadEscape}
use Rattle.gql_base.specs.lexical.Characters.{is_line_end, is_comment_byte, is_block_byte}
use Rattle.gql_base.specs.lexical.Strings.{begins_with_marks}
use Rattle.gql_base.specs.lexical.Strings.{StringCharacter, character_bytes, IsCharacter, AreCharacters, characters_bytes}
use Rattle.gql_base.specs.lexical.BlockStrings.{BlockCharacter, marks, block_characters_bytes, AreApart}

-- a byte by itself, or `\` and the byte after it
pub data RawCharacter : Type 0 where
  bare : (byte : ℕ) → RawCharacter
  taken_along : (byte : ℕ) → RawCharacter

abbrev pub raw_bytes : RawCharacter → List ℕ
raw_bytes (bare byte) = byte ∷ []
raw_bytes (taken_along byte) = 92 ∷ byte ∷ []

-- none is a line end, and `"` and `\` aren't bare
abbrev pub IsRaw : RawCharacter → Type 0
IsRaw (bare byte) = ((byte == 34) ≡ false) × ((byte == 92) ≡ false) × (is_line_end byte ≡ false)
IsRaw (taken_along byte) = is_line_end byte ≡ false

abbrev pub AreRaw : List RawCharacter → Type 0
AreRaw [] = Unit {0}
AreRaw (r ∷ rs) = IsRaw r × AreRaw rs

abbrev pub raws_bytes : List RawCharacter → List ℕ
raws_bytes = flat_map raw_bytes

-- The text begins with a string that is closed, whatever its escapes are: a mark, raw characters and a mark.
pub record IsClosed (text : List ℕ) : Type 0 where
  pub raws : List RawCharacter
  pub after : List ℕ
  pub cut : text ≡ 34 ∷ (raws_bytes raws ++ 34 ∷ after)
  pub are : AreRaw raws

-- The text begins with a block string that is closed, whatever its bytes are: three marks, characters and three marks.
pub record IsBlockClosed (text : List ℕ) : Type 0 where
  pub characters : List BlockCharacter
  pub after : List ℕ
  pub cut : text ≡ marks ++ (block_characters_bytes characters ++ (marks ++ after))
  pub apart : AreApart characters

-- What begins with three marks is a block string.
abbrev pub HasClosing : List ℕ → Type 0
HasClosing text = ((begins_with_marks text ≡ true) × IsBlockClosed text) ⊎ ((begins_with_marks text ≡ false) × IsClosed text)

-- no string character begins the bytes
abbrev pub BeginsNoCharacter : List ℕ → Type 0
BeginsNoCharacter bytes = (c : StringCharacter) (more : List ℕ) → bytes ≡ character_bytes c ++ more → IsCharacter c → ⊥

-- The bytes begin, at this place, with a `\` that begins no character, or with a control character other than a tab.
abbrev pub BeginsWithBad : ℕ → List ℕ → LexFault → Type 0
BeginsWithBad at bytes (BadEscape place) = (place ≡ at) × BeginsNoCharacter bytes × ((rest : List ℕ) × (bytes ≡ 92 ∷ rest))
BeginsWithBad at bytes (BadChar place) = (place ≡ at) × ((c : ℕ) × (rest : List ℕ) × (bytes ≡ c ∷ rest) × (is_comment_byte c ≡ false))
BeginsWithBad at bytes fault = ⊥

-- The first fault between the marks of a string: before it are characters.
pub record StringFault (body : List ℕ) (fault : LexFault) : Type 0 where
  pub characters : List StringCharacter
  pub rest : List ℕ
  pub cut : body ≡ characters_bytes characters ++ rest
  pub are : AreCharacters characters
  pub bad : BeginsWithBad (1 + length (characters_bytes characters)) rest fault

-- The first fault between the marks of a block string: a control character other than a tab or a line end.
pub record BlockFault (body : List ℕ) (fault : LexFault) : Type 0 where
  pub good : List ℕ
  pub byte : ℕ
  pub rest : List ℕ
  pub cut : body ≡ good ++ (byte ∷ rest)
  pub are : AllPass is_block_byte good
  pub bad : is_block_byte byte ≡ false
  pub told : fault ≡ BadChar (3 + length good)

-- The text begins with a string or block string that is closed, and this is the first fault between its marks.
abbrev pub HasFaultInside : List ℕ → LexFault → Type 0
HasFaultInside text fault =
    ((begins_with_marks text ≡ true) × (closed : IsBlockClosed text) × BlockFault (block_characters_bytes closed.characters) fault)
    ⊎ ((begins_with_marks text ≡ false) × (closed : IsClosed text) × StringFault (raws_bytes closed.raws) fault)
