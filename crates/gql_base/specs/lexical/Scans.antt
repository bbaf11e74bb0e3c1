-- How strings and block strings are scanned, byte by byte. These words serve proofs alone: what strings and block strings
-- are stands in `Strings` and `BlockStrings`, and where they are closed and at fault in `Closings`.
use Rattle.std.specs.Prelude.{ℕ, zero, suc, ◌+◌, ◌-◌, ◌*◌, Bool, true, false, nat_lt, ◌==◌, ◌&&◌, not, List, [], ◌∷◌, ◌++◌, length, take, drop, if◌then◌else◌, Option, None, Some}
use Rattle.std.specs.List.{prefix_len}
use Rattle.std.specs.Char.{encode_utf8}
use Rattle.gql_base.specs.declared.lexical.lexing.LexFault.{LexFault}
use Rattle.gql_base.specs.declared.lexical.lexing.LexFault.TheVariants.{BadChar, BadEscape}
use Rattle.gql_base.specs.declared.lexical.strings.Escape.{Escape}
use Rattle.gql_base.specs.lexical.Characters.{is_comment_byte, is_block_byte, is_line_end, is_hex, hex_value}
use Rattle.gql_base.specs.lexical.Strings.{begins_with_marks, letter_escape, is_leading, is_trailing, joined}

-- ---- where a string is closed

-- The place of the mark that closes a string, in what follows its opening mark and begins at this place. A `\`
-- takes the byte after it along. Where a line or the text ends before, the string isn't closed.
unfoldable pub closed_at : Bool → ℕ → List ℕ → Option ℕ
closed_at escaped at [] = None
closed_at true at (c ∷ cs) = if is_line_end c then None else closed_at false (at + 1) cs
closed_at false at (c ∷ cs) =
    if c == 34 then Some at
    else (if is_line_end c then None
    else closed_at (c == 92) (at + 1) cs)

-- The place of the three marks that close a block string, in what follows its opening marks and begins at this
-- place, of which the first bytes are passed over. Three marks after a `\` close nothing.
unfoldable pub block_closed_at : ℕ → ℕ → List ℕ → Option ℕ
block_closed_at skipped at [] = None
block_closed_at (suc n) at (c ∷ cs) = block_closed_at n (at + 1) cs
block_closed_at zero at (c ∷ cs) =
    if begins_with_marks (c ∷ cs) then Some at
    else block_closed_at (if (c == 92) && begins_with_marks cs then 3 else 0) (at + 1) cs

-- ---- escapes

-- the number that four hexadecimal digits at the front are
abbrev pub four_digits : List ℕ → Option ℕ
four_digits [] = None
four_digits (a ∷ []) = None
four_digits (a ∷ b ∷ []) = None
four_digits (a ∷ b ∷ c ∷ []) = None
four_digits (a ∷ b ∷ c ∷ d ∷ rest) =
    if is_hex a && is_hex b && is_hex c && is_hex d
    then Some ((hex_value a * 4096 + hex_value b * 256) + hex_value c * 16 + hex_value d)
    else None

-- the number of `\u` and four hexadecimal digits at the front
abbrev pub code_unit : List ℕ → Option ℕ
code_unit [] = None
code_unit (a ∷ []) = None
code_unit (a ∷ b ∷ rest) = if (a == 92) && (b == 117) then four_digits rest else None

abbrev pub escape_with : ℕ → ℕ → Escape
escape_with length character = record { length = length; character = character }

abbrev pub pair_with : ℕ → Option ℕ → Option Escape
pair_with leading None = None
pair_with leading (Some trailing) = if is_trailing trailing then Some (escape_with 12 (joined leading trailing)) else None

-- a code unit by itself, or one that begins a pair, which goes on with this one
abbrev pub code_escape : Option ℕ → Option ℕ → Option Escape
code_escape None next = None
code_escape (Some n) next =
    if is_leading n then pair_with n next
    else (if is_trailing n then None
    else Some (escape_with 6 n))

abbrev pub letter_or : Option ℕ → Option Escape → Option Escape
letter_or (Some c) other = Some (escape_with 2 c)
letter_or None other = other

-- the character of `\` and a letter at the front
abbrev pub letter_at : List ℕ → Option ℕ
letter_at [] = None
letter_at (a ∷ []) = None
letter_at (a ∷ b ∷ rest) = if a == 92 then letter_escape b else None

-- The escape at the front: `\` and a letter, a code unit that is no surrogate, or a pair of surrogates.
unfoldable pub escape_at : List ℕ → Option Escape
escape_at text = letter_or (letter_at text) (code_escape (code_unit text) (code_unit (drop 6 text)))

-- ---- what stands between the marks

-- How many bytes of a string belong together at the front: those of an escape, or one byte. It is 0 at a fault:
-- a `\` that begins no escape, or a control character other than a tab.
abbrev pub byte_step : List ℕ → ℕ
byte_step [] = 0
byte_step (c ∷ cs) = if not (c == 92) && is_comment_byte c then 1 else 0

abbrev pub step_with : Option Escape → ℕ → ℕ
step_with None size = size
step_with (Some escape) size = escape.length

unfoldable pub text_step : List ℕ → ℕ
text_step text = step_with (escape_at text) (byte_step text)

-- the fault at a byte that begins neither an escape nor a character that may stand there
abbrev pub text_fault_at : ℕ → ℕ → LexFault
text_fault_at c at = if c == 92 then BadEscape at else BadChar at

-- The first fault between the marks of a string, which begin at this place, without so many bytes.
unfoldable pub text_fault : ℕ → ℕ → List ℕ → Option LexFault
text_fault skipped at [] = None
text_fault (suc n) at (c ∷ cs) = text_fault n (at + 1) cs
text_fault zero at (c ∷ cs) =
    if text_step (c ∷ cs) == 0 then Some (text_fault_at c at)
    else text_fault (text_step (c ∷ cs) - 1) (at + 1) cs

-- The first control character other than a tab or a line end, between the marks of a block string.
abbrev pub block_fault_after : ℕ → ℕ → ℕ → Option LexFault
block_fault_after at good all = if nat_lt good all then Some (BadChar (at + good)) else None

abbrev pub block_fault : ℕ → List ℕ → Option LexFault
block_fault at text = block_fault_after at (prefix_len is_block_byte text) (length text)

-- ---- the string or block string at the front of a text

-- the place of the mark or the marks that close it
abbrev pub closing_of : List ℕ → Option ℕ
closing_of text = if begins_with_marks text then block_closed_at 0 3 (drop 3 text) else closed_at false 1 (drop 1 text)

-- the first fault up to the place where it is closed
abbrev pub fault_before : ℕ → List ℕ → Option LexFault
fault_before closing text = if begins_with_marks text then block_fault 3 (drop 3 (take closing text)) else text_fault 0 1 (drop 1 (take closing text))

-- ---- the value of a string

-- any byte but `\`
abbrev pub is_plain_byte : ℕ → Bool
is_plain_byte c = not (c == 92)

abbrev pub part_value : ℕ → Option Escape → List ℕ
part_value c None = c ∷ []
part_value c (Some escape) = encode_utf8 escape.character

-- What stands between the marks of a string, with the character of each escape in its place. The first bytes
-- are passed over.
unfoldable pub text_value : ℕ → List ℕ → List ℕ
text_value skipped [] = []
text_value (suc n) (c ∷ cs) = text_value n cs
text_value zero (c ∷ cs) = part_value c (escape_at (c ∷ cs)) ++ text_value (step_with (escape_at (c ∷ cs)) 1 - 1) cs
