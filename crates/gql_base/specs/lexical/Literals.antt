-- The values that number and string tokens have (GraphQL October 2021, 2.9.1 and 2.9.4).
use Rattle.std.specs.Prelude.{ℕ, ◌+◌, ◌-◌, ◌^◌, Bool, nat_le, nat_lt, ◌==◌, ◌&&◌, not, ℤ, pos, List, length, cond, if◌then◌else◌}
use Rattle.std.specs.Str.{all_ascii_digits}
use Rattle.std.specs.Str.Parse.{digits_value, starts_with_minus, without_leading_sign, signed_digits_value}
use Rattle.gql_base.specs.declared.lexical.token.Token.{Token}
use Rattle.gql_base.specs.declared.lexical.token.TokenKind.{TokenKind}
use Rattle.gql_base.specs.declared.lexical.token.TokenKind.TheVariants.{BlockStr}
use Rattle.gql_base.specs.declared.lexical.token.Span.{Span}
use Rattle.gql_base.specs.lexical.Scans.{text_value}
use Rattle.gql_base.specs.lexical.Blocks.{block_text}
use Rattle.gql_base.specs.lexical.Tokens.{bytes_at}

-- one or more digits
abbrev pub is_numeral : List ℕ → Bool
is_numeral bytes = not (length bytes == 0) && all_ascii_digits bytes

-- a sign or none and then digits, in the range of 128 bits
abbrev pub is_in_range : List ℕ → Bool
is_in_range bytes =
    cond (starts_with_minus bytes)
    (nat_le (digits_value 10 (without_leading_sign bytes)) (2 ^ 127))
    (nat_lt (digits_value 10 (without_leading_sign bytes)) (2 ^ 127))

-- the number that a sign and digits write, and 0 where they write none of 128 bits
abbrev pub integer_value : List ℕ → ℤ
integer_value bytes = if is_numeral (without_leading_sign bytes) && is_in_range bytes then signed_digits_value 10 bytes else pos 0

-- the value of an integer token
unfoldable pub integer_of : List ℕ → Token → ℤ
integer_of text token = integer_value (bytes_at text token.span)

-- the span without so many bytes at each end, or an empty one where it is shorter
abbrev pub inner_span : ℕ → Span → Span
inner_span n span = if nat_le (n + n) (span.end - span.start) then record { start = span.start + n; end = span.end - n } else record { start = 0; end = 0 }

-- how many bytes the marks on each side have
abbrev pub mark_length : TokenKind → ℕ
mark_length BlockStr = 3
mark_length kind = 1

-- The value of what stands between marks: with the character of each escape in its place, or of a block string its
-- lines without their common indent.
abbrev pub marked_value : TokenKind → List ℕ → List ℕ
marked_value BlockStr body = block_text body
marked_value kind body = text_value 0 body

-- the value of a string token
unfoldable pub string_of : List ℕ → Token → List ℕ
string_of text token = marked_value token.kind (bytes_at text (inner_span (mark_length token.kind) token.span))
