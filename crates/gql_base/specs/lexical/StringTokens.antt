-- What the strings and block strings of a text stand for (GraphQL October 2021, 2.9.4), told by their characters.
use Rattle.std.specs.Prelude.{◌≡◌, ℕ, List}
use Rattle.gql_base.specs.lexical.Strings.{StringCharacter, IsBody, characters_value}
use Rattle.gql_base.specs.lexical.BlockStrings.{BlockCharacter, IsBlockBody, block_characters_value}
use Rattle.gql_base.specs.lexical.Blocks.{lines_value}
use Rattle.gql_base.specs.lexical.Pieces.{Lexeme, string, block}

-- The value is what the characters of a string stand for, or the lines of what those of a block string stand for. Of
-- other lexemes nothing is said.
abbrev pub StandsFor : List ℕ → Lexeme → Type 0
StandsFor value (string body) = (characters : List StringCharacter) × IsBody characters body × (value ≡ characters_value characters)
StandsFor value (block body) = (characters : List BlockCharacter) × IsBlockBody characters body × (value ≡ lines_value (block_characters_value characters))
StandsFor value lexeme = Unit {0}
