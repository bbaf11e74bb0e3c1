-- Whether a directive is applied in a text (GraphQL October 2021, 2.12).
use Rattle.std.specs.Prelude.{ℕ, ◌≡◌, Bool, true, false, ◌&&◌, ◌||◌, List, [], ◌∷◌}
use Rattle.std.specs.Str.{bytes_eq}
use Rattle.gql_base.specs.declared.lexical.token.TokenKind.TheVariants.{At}
use Rattle.gql_base.specs.lexical.Pieces.{Lexeme, word, number, float, string, block, mark, Piece, Divides, BeginsNothing, lexemes_of}

abbrev pub is_mark_at : Lexeme → Bool
is_mark_at (mark At) = true
is_mark_at lexeme = false

abbrev pub is_named : List ℕ → Lexeme → Bool
is_named name (word bytes) = bytes_eq bytes name
is_named name (number bytes) = false
is_named name (float bytes) = false
is_named name (string body) = false
is_named name (block body) = false
is_named name (mark kind) = false

-- whether `@` and the name stand one behind the other among lexemes, before which `@` stands or doesn't
unfoldable pub uses_after : Bool → List ℕ → List Lexeme → Bool
uses_after marked name [] = false
uses_after marked name (l ∷ ls) = (marked && is_named name l) || uses_after (is_mark_at l) name ls

-- The same of the pieces that a text has up to its first fault, where floats may stand in it.
abbrev pub IsUsedAfter : Bool → List ℕ → List ℕ → Bool → Type 0
IsUsedAfter marked name text used =
    (pieces : List Piece) × (rest : List ℕ) × Divides true pieces text rest × BeginsNothing true rest × (used ≡ uses_after marked name (lexemes_of pieces))

-- whether a directive of this name is applied in the text
abbrev pub IsUsed : List ℕ → List ℕ → Bool → Type 0
IsUsed = IsUsedAfter false
