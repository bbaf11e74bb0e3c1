-- What the fields of a head say, from their names and values (RFC 9110, section 5).
use Rattle.std.specs.Prelude.{ℕ, Bool, true, false, not, ◌&&◌, List, [], ◌∷◌, map, length, drop, Option, Some, None, Result, Ok, Err, if◌then◌else◌, nat_eq, nat_lt, nat_le, codes, bytes_eq}
use Rattle.std.specs.List.{list_all}
use Rattle.std.specs.Char.{is_ascii_digit, to_ascii_lowercase}
use Rattle.std.specs.Str.Parse.{digits_value}
use Rattle.httparse.specs.Spans.{header_bytes}
use Rattle.http_fields.specs.declared.lengths.BadLength.{BadLength}
use Rattle.http_fields.specs.declared.fields.Fields.{Fields}
use Rattle.http_fields.specs.declared.values.Values.{Values}

-- the name of a field, and its value without white space at its ends
abbrev pub NameAndValue : Type 0
NameAndValue = List ℕ × List ℕ

-- the same text, whatever the case of its letters
unfoldable pub same_in_any_case : List ℕ → List ℕ → Bool
same_in_any_case a b = bytes_eq (map to_ascii_lowercase a) (map to_ascii_lowercase b)

-- the values of the fields with this name, in their order
unfoldable pub values_of : List ℕ → List NameAndValue → List (List ℕ)
values_of name [] = []
values_of name (field ∷ fields) = if same_in_any_case field.0 name then field.1 ∷ values_of name fields else values_of name fields

abbrev pub is_none : List (List ℕ) → Bool
is_none [] = true
is_none (value ∷ values) = false

-- a coding of the body stands that is not `identity`
abbrev pub is_coded : List NameAndValue → Bool
is_coded fields = not (list_all (λ value. same_in_any_case value (codes "identity")) (values_of (codes "content-encoding") fields))

-- a transfer coding stands
abbrev pub has_transfer_coding : List NameAndValue → Bool
has_transfer_coding fields = not (is_none (values_of (codes "transfer-encoding") fields))

-- a length: 1 to 18 digits
abbrev pub is_length : List ℕ → Bool
is_length value = nat_lt 0 (length value) && (nat_le (length value) 18 && list_all is_ascii_digit value)

-- a length that is this number
abbrev pub is_length_of : ℕ → List ℕ → Bool
is_length_of number value = is_length value && nat_eq (digits_value 10 value) number

-- the length that these values say, all of them alike, where there are some
abbrev pub length_among : List (List ℕ) → Result (Option ℕ) BadLength
length_among [] = Ok None
length_among (value ∷ more) =
    if is_length value && list_all (is_length_of (digits_value 10 value)) more then Ok (Some (digits_value 10 value)) else Err record {}

-- the length of the body that the fields say, where they say one
abbrev pub length_in : List NameAndValue → Result (Option ℕ) BadLength
length_in fields = length_among (values_of (codes "content-length") fields)

-- ---- in the service of the code

abbrev pub pairs_of : Fields → List NameAndValue
pairs_of fields = map (header_bytes fields.bytes.now) fields.headers.now

abbrev pub values_left : Values → List (List ℕ)
values_left values = values_of values.name.now (drop values.at (pairs_of values.fields))
