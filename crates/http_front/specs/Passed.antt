-- Which fields of a client's request may be passed on, and the lines in which they are (RFC 9110, section 7.6; RFC 9112, section 5).
use Rattle.std.specs.Prelude.{◌≡◌, ◌≢◌, ℕ, Bool, not, ◌&&◌, List, [], ◌∷◌, ◌++◌, take, codes, if◌then◌else◌, IsTrue, All}
use Rattle.std.specs.List.{list_any, flat_map}
use Rattle.httparse.specs.Grammar.{is_token, Field, IsField, print_field}
use Rattle.http_fields.specs.Fields.{NameAndValue, same_in_any_case}

-- whether a name is one of these, whatever the case of its letters
abbrev pub is_among : List (List ℕ) → List ℕ → Bool
is_among names name = list_any (same_in_any_case name) names

-- ---- names

-- fields of the request as the gateway itself writes it
abbrev pub own_fields : List (List ℕ)
own_fields = codes "host" ∷ codes "content-length" ∷ codes "content-type" ∷ codes "content-encoding" ∷ codes "accept" ∷ codes "accept-encoding" ∷ []

-- fields that speak of one connection alone (RFC 9110, sections 7.6.1 and 10.1.1)
abbrev pub connection_fields : List (List ℕ)
connection_fields = codes "connection" ∷ codes "keep-alive" ∷ codes "transfer-encoding" ∷ codes "te" ∷ codes "trailer" ∷ codes "upgrade" ∷ codes "expect" ∷ []

-- the name begins with `proxy-`
abbrev pub is_of_proxies : List ℕ → Bool
is_of_proxies name = same_in_any_case (take 6 name) (codes "proxy-")

-- whether fields of this name may be passed on
abbrev pub may_be_passed : List ℕ → Bool
may_be_passed name = is_token name && (not (is_among own_fields name) && (not (is_among connection_fields name) && not (is_of_proxies name)))

-- ---- the lines that are passed on

-- the line of a field
abbrev pub field_line : NameAndValue → List ℕ
field_line field = field.0 ++ codes ": " ++ field.1 ++ codes "\r\n"

abbrev pub line_if_named : List (List ℕ) → NameAndValue → List ℕ
line_if_named names field = if is_among names field.0 && may_be_passed field.0 then field_line field else []

-- the lines of the fields with these names that may be passed on, in their order
abbrev pub passed_lines : List (List ℕ) → List NameAndValue → List ℕ
passed_lines names fields = flat_map (line_if_named names) fields

-- no byte of it ends a line, and none is zero
abbrev pub HasNoBreak : List ℕ → Type 0
HasNoBreak bytes = All (λ b. (b ≢ 13) × (b ≢ 10) × (b ≢ 0)) bytes

abbrev pub StandsInOneLine : NameAndValue → Type 0
StandsInOneLine field = HasNoBreak field.0 × HasNoBreak field.1

-- a field of the grammar of heads, whose name may be passed on
abbrev pub IsPassedOn : Field → Type 0
IsPassedOn field = IsField field × IsTrue (may_be_passed field.name)

-- The bytes are whole lines of such fields.
abbrev pub ArePassedLines : List ℕ → Type 0
ArePassedLines lines = (fields : List Field) × All IsPassedOn fields × (lines ≡ flat_map print_field fields)
