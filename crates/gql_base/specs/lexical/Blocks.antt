-- The value of a block string (GraphQL October 2021, 2.9.4, BlockStringValue). Texts are lists of UTF-8 bytes, and
-- what is told apart here are characters of one byte.
use Rattle.std.specs.Prelude.{ℕ, ◌-◌, Bool, false, not, ◌==◌, ◌&&◌, ◌||◌, List, [], ◌∷◌, length, take, drop, map, min, reverse, if◌then◌else◌, Option, None, Some}
use Rattle.std.specs.List.{prefix_len, filter, reduce, join_with_byte}
use Rattle.std.specs.Option.{unwrap_or}
use Rattle.gql_base.specs.lexical.Characters.{is_line_end}
use Rattle.gql_base.specs.lexical.Strings.{begins_with_marks}

-- what stands between the marks, without each `\` that stands before three marks
unfoldable pub unescaped : List ℕ → List ℕ
unescaped [] = []
unescaped (c ∷ cs) = if (c == 92) && begins_with_marks cs then unescaped cs else c ∷ unescaped cs

-- ---- lines

abbrev pub begins_with_line_feed : List ℕ → Bool
begins_with_line_feed [] = false
begins_with_line_feed (c ∷ cs) = c == 10

-- the lines, where this byte stands before the first
abbrev pub begun_with : ℕ → List (List ℕ) → List (List ℕ)
begun_with c [] = (c ∷ []) ∷ []
begun_with c (l ∷ ls) = (c ∷ l) ∷ ls

-- The lines of a text, the last of which may be empty. A line feed ends a line, and so does a carriage return. Where
-- a line feed comes right after a carriage return, both together end one.
unfoldable pub lines_of : List ℕ → List (List ℕ)
lines_of [] = [] ∷ []
lines_of (c ∷ cs) =
    if (c == 13) && begins_with_line_feed cs then lines_of cs
    else (if is_line_end c then [] ∷ lines_of cs
    else begun_with c (lines_of cs))

-- ---- indents

-- a space or a tab
abbrev pub is_white_space : ℕ → Bool
is_white_space c = (c == 32) || (c == 9)

-- how many spaces and tabs a line begins with
abbrev pub indent : List ℕ → ℕ
indent line = prefix_len is_white_space line

-- a line of spaces and tabs alone
abbrev pub is_blank_line : List ℕ → Bool
is_blank_line line = indent line == length line

-- a line that holds another character
abbrev pub holds_text : List ℕ → Bool
holds_text line = not (is_blank_line line)

-- the least indent of the lines that hold another character, or 0 where none does
unfoldable pub common_indent : List (List ℕ) → ℕ
common_indent ls = unwrap_or (reduce min (map indent (filter holds_text ls))) 0

-- The first line as it is, and the others without so many characters as their common indent has.
abbrev pub without_indent : List (List ℕ) → List (List ℕ)
without_indent [] = []
without_indent (l ∷ ls) = l ∷ map (drop (common_indent ls)) ls

-- ---- blank lines

-- the lines from the first on that isn't blank
abbrev pub without_blank_front : List (List ℕ) → List (List ℕ)
without_blank_front ls = drop (prefix_len is_blank_line ls) ls

-- the lines up to the last that isn't blank
abbrev pub without_blank_end : List (List ℕ) → List (List ℕ)
without_blank_end ls = take (length ls - prefix_len is_blank_line (reverse ls)) ls

-- ---- the value

-- The lines of a text without their common indent, then without the blank ones in front, then without the blank ones at
-- the end, and joined by line feeds.
abbrev pub lines_value : List ℕ → List ℕ
lines_value text = join_with_byte 10 (without_blank_end (without_blank_front (without_indent (lines_of text))))

-- the value of what stands between the marks of a block string
unfoldable pub block_text : List ℕ → List ℕ
block_text raw = lines_value (unescaped raw)

-- ---- parts of the lines: these words serve the proof of the reading alone

-- the lines of what is left of a text, none where nothing is
abbrev pub lines_left : Option (List ℕ) → List (List ℕ)
lines_left None = []
lines_left (Some text) = lines_of text

-- how many bytes the line end at the front has, 0 where none is there
abbrev pub line_end_length : List ℕ → ℕ
line_end_length [] = 0
line_end_length (c ∷ cs) = if (c == 13) && begins_with_line_feed cs then 2 else (if is_line_end c then 1 else 0)

-- a line without so many of the spaces and tabs that it begins with
abbrev pub unindented : ℕ → List ℕ → List ℕ
unindented n line = drop (min n (indent line)) line
