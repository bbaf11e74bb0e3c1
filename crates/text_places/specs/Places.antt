-- Where the byte at an offset stands in a text: in which line, and in which column. Texts are lists of UTF-8 bytes.
use Rattle.std.specs.Prelude.{ℕ, zero, suc, ◌+◌, ◌-◌, Bool, not, ◌==◌, ◌&&◌, ◌||◌, nat_lt, nat_le, List, length, take, drop, get_or, if◌then◌else◌}
use Rattle.std.specs.List.{prefix_len, filter}
use Rattle.gql_base.specs.lexical.Characters.{is_line_end}

-- A line ends with the byte at this offset: a line feed, or a carriage return that no line feed follows (GraphQL October 2021,
-- 2.1.2).
abbrev pub ends_line : List ℕ → ℕ → Bool
ends_line text at = (get_or text at 0 == 10) || ((get_or text at 0 == 13) && not (get_or text (at + 1) 0 == 10))

-- how many lines end before the offset
unfoldable pub lines_ended : List ℕ → ℕ → ℕ
lines_ended text zero = 0
lines_ended text (suc at) = lines_ended text at + (if ends_line text at then 1 else 0)

-- where the line begins in which the offset is: behind the last line end before it
unfoldable pub line_start : List ℕ → ℕ → ℕ
line_start text zero = 0
line_start text (suc at) = if ends_line text at then suc at else line_start text at

-- lines are counted from 1
abbrev pub line_number : List ℕ → ℕ → ℕ
line_number text at = suc (lines_ended text at)

-- the line that begins at this offset, without its end
abbrev pub line_from : List ℕ → List ℕ
line_from rest = take (prefix_len (λ c. not (is_line_end c)) rest) rest

-- the line in which the offset is, without its end
abbrev pub line_of : List ℕ → ℕ → List ℕ
line_of text at = line_from (drop (line_start text at) text)

-- what stands before the offset on its line; of a line end, the whole line
abbrev pub line_before : List ℕ → ℕ → List ℕ
line_before text at = take (at - line_start text at) (line_of text at)

-- A character begins with this byte.
abbrev pub begins_character : ℕ → Bool
begins_character c = nat_lt c 128 || nat_le 192 c

-- how many characters these are
abbrev pub characters : List ℕ → ℕ
characters bytes = length (filter begins_character bytes)

-- columns are counted from 1, a character each
abbrev pub column : List ℕ → ℕ → ℕ
column text at = suc (characters (line_before text at))
