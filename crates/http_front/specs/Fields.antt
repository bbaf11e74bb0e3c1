-- What the fields of a head say, from their names and values (RFC 9110, section 5).
use Rattle.std.specs.Prelude.{ℕ, Bool, false, List, [], ◌∷◌, map, length, Option, Some, None, Result, Ok, Err, if◌then◌else◌, ◌==◌, codes}
use Rattle.std.specs.List.{list_any}
use Rattle.std.specs.Borrow.{Bor}
use Rattle.httparse.specs.Grammar.{trim_ows}
use Rattle.http_fields.specs.declared.lengths.BadLength.{BadLength}
use Rattle.http_fields.specs.Fields.{NameAndValue, same_in_any_case, values_of, length_in}
use Rattle.client_files.specs.ClientLines.{is_key}
use Rattle.http_front.specs.declared.fault.FrontFault.{FrontFault}
use Rattle.http_front.specs.declared.fault.FrontFault.TheVariants as fault
use Rattle.http_front.specs.declared.values.Elements.{Elements}

-- the item of a list that has just one
abbrev pub single : List (List ℕ) → Option (List ℕ)
single (value ∷ []) = Some value
single _ = None

abbrev pub if_key : Option (List ℕ) → Option (List ℕ)
if_key None = None
if_key (Some value) = if is_key value then Some value else None

-- the client's key, where there is one
abbrev pub key_in : List NameAndValue → Option (List ℕ)
key_in fields = if_key (single (values_of (codes "x-client-key") fields))

abbrev pub before_first : ℕ → List (List ℕ) → List (List ℕ)
before_first byte [] = (byte ∷ []) ∷ []
before_first byte (piece ∷ pieces) = (byte ∷ piece) ∷ pieces

-- the pieces of a value between the bytes `mark`
abbrev pub pieces_between : ℕ → List ℕ → List (List ℕ)
pieces_between mark [] = [] ∷ []
pieces_between mark (byte ∷ bytes) = if byte == mark then [] ∷ pieces_between mark bytes else before_first byte (pieces_between mark bytes)

-- the same without white space at the ends of each
unfoldable pub elements : ℕ → List ℕ → List (List ℕ)
elements mark value = map trim_ows (pieces_between mark value)

abbrev pub first_is : List ℕ → List (List ℕ) → Bool
first_is wanted [] = false
first_is wanted (element ∷ rest) = same_in_any_case element wanted

-- the value up to its first `;` is `application/json`
abbrev pub is_json_type : List ℕ → Bool
is_json_type value = first_is (codes "application/json") (elements 59 value)

abbrev pub if_json : Option (List ℕ) → Bool
if_json None = false
if_json (Some value) = is_json_type value

-- there is one type of the body, and it is JSON
abbrev pub is_json : List NameAndValue → Bool
is_json fields = if_json (single (values_of (codes "content-type") fields))

-- an element of a list between `,` is this one
abbrev pub has_element : List ℕ → List ℕ → Bool
has_element wanted value = list_any (λ element. same_in_any_case element wanted) (elements 44 value)

-- the client closes the connection after this request
abbrev pub says_close : List NameAndValue → Bool
says_close fields = list_any (has_element (codes "close")) (values_of (codes "connection") fields)

-- the length of the body, which must be said
abbrev pub needed : Result (Option ℕ) BadLength → Result ℕ FrontFault
needed (Ok None) = Err fault.NoLength
needed (Ok (Some length)) = Ok length
needed (Err bad) = Err fault.BadLength

abbrev pub body_length : List NameAndValue → Result ℕ FrontFault
body_length fields = needed (length_in fields)

-- ---- in the service of the code

abbrev pub elements_of_rest : ℕ → Option (Bor (List ℕ)) → List (List ℕ)
elements_of_rest mark None = []
elements_of_rest mark (Some rest) = elements mark rest.now

abbrev pub elements_left : Elements → List (List ℕ)
elements_left left = elements_of_rest left.mark left.rest
