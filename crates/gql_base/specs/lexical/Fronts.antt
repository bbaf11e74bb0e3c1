-- How the piece at the front of a text is found, or its fault. These words serve the proof of lexing alone: what
-- a piece is stands in `Pieces`, and what a fault is in `Faults`.
use Rattle.std.specs.Prelude.{ℕ, ◌+◌, ◌^◌, ◌≤◌, Bool, false, nat_le, nat_lt, ◌==◌, ◌&&◌, List, [], ◌∷◌, length, take, drop, slice_index, if◌then◌else◌, Option, Some, None, Result, Ok, Err}
use Rattle.std.specs.List.{prefix_len}
use Rattle.std.specs.Char.{is_ascii_digit}
use Rattle.std.specs.Str.Parse.{digits_value}
use Rattle.gql_base.specs.declared.lexical.lexing.LexFault.{LexFault}
use Rattle.gql_base.specs.declared.lexical.lexing.LexFault.TheVariants.{BadChar, BadNumber, OpenText, BadEscape, FloatValue, Memory}
use Rattle.gql_base.specs.declared.lexical.lexing.Front.{Front}
use Rattle.gql_base.specs.declared.lexical.numbers.Found.{Found}
use Rattle.gql_base.specs.declared.lexical.token.TokenKind.{TokenKind}
use Rattle.gql_base.specs.declared.lexical.token.TokenKind.TheVariants.{Name, Int, Float, Str, BlockStr, Bang, Dollar, Amp, OpenParen, CloseParen, Spread, Colon, Equals, At, OpenBracket, CloseBracket, OpenBrace, Pipe, CloseBrace}
use Rattle.gql_base.specs.lexical.Characters.{is_name_start, is_name_continue, is_blank, is_comment_byte, is_number_start, follows_no_number, is_exponent_mark, is_sign}
use Rattle.gql_base.specs.lexical.Strings.{begins_with_marks}
use Rattle.gql_base.specs.lexical.Scans.{closing_of, fault_before}

-- the fault's place is no greater than this
abbrev pub IsWithin : ℕ → LexFault → Type 0
IsWithin most (BadChar at) = at ≤ most
IsWithin most (BadNumber at) = at ≤ most
IsWithin most (OpenText at) = at ≤ most
IsWithin most (BadEscape at) = at ≤ most
IsWithin most (FloatValue at) = at ≤ most
IsWithin most Memory = Unit {0}

abbrev pub bind : {A B : Type 0} → Option A → (A → Option B) → Option B
bind None f = None
bind (Some a) f = f a

-- ---- numbers

-- whether the byte at a place passes a test
abbrev pub passes : (ℕ → Bool) → List ℕ → ℕ → Bool
passes test text at = nat_lt at (length text) && test (slice_index text at)

abbrev pub is_minus : ℕ → Bool
is_minus c = c == 45

abbrev pub is_zero : ℕ → Bool
is_zero c = c == 48

abbrev pub is_dot : ℕ → Bool
is_dot c = c == 46

-- the places after parts of a number, of which the parts begin at a place

abbrev pub digits_end : List ℕ → ℕ → Option ℕ
digits_end text at = if passes is_ascii_digit text at then Some (at + prefix_len is_ascii_digit (drop at text)) else None

abbrev pub minus_end : List ℕ → ℕ
minus_end text = if passes is_minus text 0 then 1 else 0

abbrev pub whole_end : List ℕ → ℕ → Option ℕ
whole_end text at = if passes is_zero text at then Some (at + 1) else digits_end text at

abbrev pub fraction_end : List ℕ → ℕ → Option ℕ
fraction_end text at = if passes is_dot text at then digits_end text (at + 1) else Some at

abbrev pub sign_end : List ℕ → ℕ → ℕ
sign_end text at = if passes is_sign text at then at + 1 else at

abbrev pub exponent_end : List ℕ → ℕ → Option ℕ
exponent_end text at = if passes is_exponent_mark text at then digits_end text (sign_end text (at + 1)) else Some at

abbrev pub found_with : List ℕ → ℕ → ℕ → Option Found
found_with text whole end = if passes follows_no_number text end then None else Some (record { end = end; is_float = nat_lt whole end })

abbrev pub number_from : List ℕ → ℕ → Option Found
number_from text whole = bind (fraction_end text whole) (λ fraction. bind (exponent_end text fraction) (found_with text whole))

unfoldable pub number_found : List ℕ → Option Found
number_found text = bind (whole_end text (minus_end text)) (number_from text)

-- whether the digits of an integer, after its minus, are in the range of integers
abbrev pub integer_fits : List ℕ → Bool
integer_fits [] = false
integer_fits (c ∷ cs) = if c == 45 then nat_le (digits_value 10 cs) (2 ^ 127) else nat_lt (digits_value 10 (c ∷ cs)) (2 ^ 127)

abbrev pub front_with : Option TokenKind → ℕ → Front
front_with kind size = record { kind = kind; length = size }

-- a float at the front
abbrev pub float_front : Bool → ℕ → Result Front LexFault
float_front floats end = if floats then Ok (front_with (Some Float) end) else Err (FloatValue 0)

abbrev pub found_front : Bool → List ℕ → Option Found → Result Front LexFault
found_front floats text None = Err (BadNumber 0)
found_front floats text (Some found) =
    if found.is_float then float_front floats found.end
    else (if integer_fits (take found.end text) then Ok (front_with (Some Int) found.end)
    else Err (BadNumber 0))

-- ---- strings

abbrev pub text_kind : List ℕ → TokenKind
text_kind text = if begins_with_marks text then BlockStr else Str

abbrev pub mark_size : List ℕ → ℕ
mark_size text = if begins_with_marks text then 3 else 1

abbrev pub sound_text : List ℕ → ℕ → Option LexFault → Result Front LexFault
sound_text text closing None = Ok (front_with (Some (text_kind text)) (closing + mark_size text))
sound_text text closing (Some fault) = Err fault

abbrev pub closed_text : List ℕ → Option ℕ → Result Front LexFault
closed_text text None = Err (OpenText 0)
closed_text text (Some closing) = sound_text text closing (fault_before closing text)

unfoldable pub text_front : List ℕ → Result Front LexFault
text_front text = closed_text text (closing_of text)

-- ---- pieces

-- the punctuator of one byte
abbrev pub mark_of : ℕ → Option TokenKind
mark_of c =
    if c == 33 then Some Bang
    else (if c == 36 then Some Dollar
    else (if c == 38 then Some Amp
    else (if c == 40 then Some OpenParen
    else (if c == 41 then Some CloseParen
    else (if c == 58 then Some Colon
    else (if c == 61 then Some Equals
    else (if c == 64 then Some At
    else (if c == 91 then Some OpenBracket
    else (if c == 93 then Some CloseBracket
    else (if c == 123 then Some OpenBrace
    else (if c == 124 then Some Pipe
    else (if c == 125 then Some CloseBrace
    else None))))))))))))

-- whether these two bytes come next
abbrev pub begins_with_two : ℕ → ℕ → List ℕ → Bool
begins_with_two b c [] = false
begins_with_two b c (d ∷ []) = false
begins_with_two b c (d ∷ e ∷ es) = (d == b) && (e == c)

abbrev pub mark_front : Option TokenKind → Result Front LexFault
mark_front None = Err (BadChar 0)
mark_front (Some kind) = Ok (front_with (Some kind) 1)

-- a byte and what follows it begin with a byte order mark
abbrev pub is_byte_order_mark : ℕ → List ℕ → Bool
is_byte_order_mark c cs = (c == 239) && begins_with_two 187 191 cs

-- a byte and what follows it begin with three dots
abbrev pub is_spread : ℕ → List ℕ → Bool
is_spread c cs = (c == 46) && begins_with_two 46 46 cs

-- the piece that begins with this byte, which begins neither a number nor a string: the kind of a token, none
-- for what is ignored, and its length in bytes
abbrev pub piece_from : ℕ → List ℕ → Result Front LexFault
piece_from c cs =
    if is_name_start c then Ok (front_with (Some Name) (1 + prefix_len is_name_continue cs))
    else (if is_blank c then Ok (front_with None 1)
    else (if c == 35 then Ok (front_with None (1 + prefix_len is_comment_byte cs))
    else (if is_byte_order_mark c cs then Ok (front_with None 3)
    else (if is_spread c cs then Ok (front_with (Some Spread) 3)
    else mark_front (mark_of c)))))

-- the piece at the front of a text, or the fault there
unfoldable pub front_of : Bool → List ℕ → Result Front LexFault
front_of floats [] = Err (BadChar 0)
front_of floats (c ∷ cs) =
    if is_number_start c then found_front floats (c ∷ cs) (number_found (c ∷ cs))
    else (if c == 34 then text_front (c ∷ cs)
    else piece_from c cs)
