-- The lines of a text, and the words of a line.
use Rattle.std.specs.Prelude.{ℕ, Bool, ◌==◌, List, [], ◌∷◌, ◌++◌}
use Rattle.std.specs.List.{slice_split}

-- a line feed
abbrev pub is_line_feed : ℕ → Bool
is_line_feed byte = byte == 10

-- a space
abbrev pub is_space : ℕ → Bool
is_space byte = byte == 32

-- a part, and nothing where it is empty
abbrev pub unless_empty : List ℕ → List (List ℕ)
unless_empty [] = []
unless_empty (byte ∷ bytes) = (byte ∷ bytes) ∷ []

-- all parts but an empty last one
abbrev pub but_an_empty_last : List (List ℕ) → List (List ℕ)
but_an_empty_last [] = []
but_an_empty_last (part ∷ []) = unless_empty part
but_an_empty_last (part ∷ next ∷ more) = part ∷ but_an_empty_last (next ∷ more)

-- The lines of a text end with line feeds, the last one optionally: they are the parts between its line feeds, and where
-- nothing stands behind the last line feed, that is no line. A carriage return is part of its line.
unfoldable pub lines_of : List ℕ → List (List ℕ)
lines_of text = but_an_empty_last (slice_split is_line_feed text)

-- The words of a line are the parts between its spaces. Where two spaces stand side by side, or one at an end of the line,
-- a word is empty.
unfoldable pub words_of : List ℕ → List (List ℕ)
words_of line = slice_split is_space line

-- a line with the line feed that ends it
abbrev pub ended : List ℕ → List ℕ
ended line = line ++ (10 ∷ [])
