-- The bytes of a request to the upstream (RFC 9112, section 3).
use Rattle.std.specs.Prelude.{◌≡◌, ℕ, ◌<◌, ◌^◌, List, [], ◌∷◌, ◌++◌, length, codes, IsUtf8, All, flat_map}
use Rattle.std.specs.Fmt.{decimal}
use Rattle.httparse.specs.Grammar.{RequestHead, Field, IsField, LineEnd, ReadsRequest, crlf, AllPass, is_uri_byte, is_value_byte, print_field}

-- the request line, and the host
abbrev pub start_bytes : List ℕ → List ℕ → List ℕ
start_bytes host target = codes "POST " ++ target ++ codes " HTTP/1.1\r\nhost: " ++ host

-- the fields that every request has
abbrev pub fields_bytes : List ℕ
fields_bytes =
    codes "\r\ncontent-type: application/json\r\naccept: application/json\r\naccept-encoding: identity\r\nconnection: close\r\ncontent-length: "

-- the length of the body, and the end of its line
abbrev pub length_bytes : ℕ → List ℕ
length_bytes length = decimal length ++ codes "\r\n"

-- the end of a head with the lines of further fields
abbrev pub end_bytes : List ℕ → ℕ → List ℕ
end_bytes lines length = length_bytes length ++ (lines ++ codes "\r\n")

-- the head of a request with a body of this length; the lines of further fields stand behind its own
unfoldable pub head_bytes : List ℕ → List ℕ → List ℕ → ℕ → List ℕ
head_bytes host target lines length = start_bytes host target ++ (fields_bytes ++ end_bytes lines length)

-- the whole request: its head, and its body
abbrev pub request_bytes : List ℕ → List ℕ → List ℕ → List ℕ → List ℕ
request_bytes host target lines body = head_bytes host target lines (length body) ++ body

-- ---- what a server reads there

-- a field as every request has it
abbrev pub written_field : List ℕ → List ℕ → Field
written_field name value = record { name = name; raw = 32 ∷ value; end = crlf }

-- the fields that every request has
abbrev pub written_fields : List ℕ → ℕ → List Field
written_fields host length =
    written_field (codes "host") host ∷ written_field (codes "content-type") (codes "application/json") ∷ written_field (codes "accept") (codes "application/json")
    ∷ written_field (codes "accept-encoding") (codes "identity") ∷ written_field (codes "connection") (codes "close") ∷ written_field (codes "content-length") (decimal length) ∷ []

-- the head of a request in the grammar of heads, with further fields behind those that every request has
abbrev pub request_head : List ℕ → List ℕ → List Field → ℕ → RequestHead
request_head host target further length = record {
  blank = [];
  method = codes "POST";
  target = target;
  minor = 1;
  line_end = crlf;
  fields = written_fields host length ++ further;
  last = crlf;
}

-- What is put into a request may stand there: the target, the host, which is the value of a field, and the further fields.
pub record MayBeSent (host target : List ℕ) (further : List Field) (body : List ℕ) : Type 0 where
  pub some : 0 < length target
  pub is_target : AllPass is_uri_byte target
  pub is_text : IsUtf8 target
  pub is_host : AllPass is_value_byte host
  pub are_fields : All IsField further
  pub short : length body < 2 ^ 64

-- the bytes of a request with the lines of these further fields
abbrev pub bytes_with : List ℕ → List ℕ → List Field → List ℕ → List ℕ
bytes_with host target further body = request_bytes host target (flat_map print_field further) body

abbrev pub head_with : List ℕ → List ℕ → List Field → List ℕ → RequestHead
head_with host target further body = request_head host target further (length body)

-- whoever reads a request from the front of these bytes reads this head, and this is left
abbrev pub IsReadAsOne : List ℕ → RequestHead → List ℕ → Type 0
IsReadAsOne bytes head left = (read : RequestHead) (rest : List ℕ) → ReadsRequest bytes read rest → (read ≡ head) × (rest ≡ left)
