-- How block strings are written (GraphQL October 2021, 2.9.4): block string characters between three marks and three
-- marks. What they stand for, once their lines and indents are looked at, is in `Blocks`.
use Rattle.std.specs.Prelude.{ℕ, ◌≡◌, true, false, ◌==◌, ◌&&◌, List, [], ◌∷◌, ◌++◌}
use Rattle.std.specs.List.{flat_map}
use Rattle.gql_base.specs.lexical.Characters.{is_block_byte}
use Rattle.gql_base.specs.lexical.Strings.{begins_with_marks}

-- `\` and three marks, which stand for three marks, or a byte that stands for itself
pub data BlockCharacter : Type 0 where
  escaped_marks : BlockCharacter
  other : (byte : ℕ) → BlockCharacter

-- three marks
abbrev pub marks : List ℕ
marks = 34 ∷ 34 ∷ 34 ∷ []

abbrev pub block_character_bytes : BlockCharacter → List ℕ
block_character_bytes escaped_marks = 92 ∷ marks
block_character_bytes (other byte) = byte ∷ []

abbrev pub block_characters_bytes : List BlockCharacter → List ℕ
block_characters_bytes = flat_map block_character_bytes

-- where neither three marks nor `\` and three marks begin
abbrev pub begins_no_marks : List ℕ → Type 0
begins_no_marks [] = Unit {0}
begins_no_marks (c ∷ cs) = (begins_with_marks (c ∷ cs) ≡ false) × (((c == 92) && begins_with_marks cs) ≡ false)

-- These are block string characters, whatever their bytes, with three marks after them: no byte that stands for itself
-- begins three marks, or `\` and three marks.
abbrev pub AreApart : List BlockCharacter → Type 0
AreApart [] = Unit {0}
AreApart (escaped_marks ∷ cs) = AreApart cs
AreApart (other byte ∷ cs) = begins_no_marks (byte ∷ (block_characters_bytes cs ++ marks)) × AreApart cs

-- no byte that stands for itself is a control character other than a tab or a line end
abbrev pub AreBlockCharacters : List BlockCharacter → Type 0
AreBlockCharacters [] = Unit {0}
AreBlockCharacters (escaped_marks ∷ cs) = AreBlockCharacters cs
AreBlockCharacters (other byte ∷ cs) = (is_block_byte byte ≡ true) × AreBlockCharacters cs

-- These characters are the body of a block string.
pub record IsBlockBody (cs : List BlockCharacter) (body : List ℕ) : Type 0 where
  pub cut : body ≡ block_characters_bytes cs
  pub apart : AreApart cs
  pub are : AreBlockCharacters cs

-- what characters stand for, before lines and indents are looked at

abbrev pub block_character_value : BlockCharacter → List ℕ
block_character_value escaped_marks = marks
block_character_value (other byte) = byte ∷ []

abbrev pub block_characters_value : List BlockCharacter → List ℕ
block_characters_value = flat_map block_character_value
