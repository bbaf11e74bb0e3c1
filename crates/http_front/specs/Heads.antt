-- What the head of a request asks for, or the first of its faults.
use Rattle.std.specs.Prelude.{◌≡◌, ℕ, Bool, ◌||◌, List, map, Option, Some, None, Result, Ok, Err, if◌then◌else◌, nat_eq, nat_lt, codes, bytes_eq}
use Rattle.httparse.specs.Grammar.{RequestHead}
use Rattle.httparse.specs.Spans.{name_and_value}
use Rattle.http_front.specs.declared.fault.FrontFault.{FrontFault}
use Rattle.http_front.specs.declared.fault.FrontFault.TheVariants as fault
use Rattle.http_front.specs.declared.head.Wanted.{Wanted}
use Rattle.http_fields.specs.Fields.{NameAndValue, is_coded, has_transfer_coding}
use Rattle.http_front.specs.Fields.{key_in, is_json, body_length, says_close}

-- the client's key, the length of the body, and whether the connection closes afterwards
pub record Wants : Type 0 where
  pub key : List ℕ
  pub length : ℕ
  pub close : Bool

abbrev pub wants : List ℕ → ℕ → Bool → Wants
wants key length close = record { key = key; length = length; close = close }

-- a body of this length, which has a limit
abbrev pub with_body : List ℕ → Bool → Result ℕ FrontFault → Result Wants FrontFault
with_body key close (Ok length) = if nat_lt 262144 length then Err (fault.BodyTooLarge length) else Ok (wants key length close)
with_body key close (Err f) = Err f

-- what is asked for by the client with this key
abbrev pub with_key : Bool → List NameAndValue → Option (List ℕ) → Result Wants FrontFault
with_key close fields None = Err fault.NoKey
with_key close fields (Some key) =
    if is_coded fields then Err fault.Coded
    else if is_json fields then if has_transfer_coding fields then Err fault.Chunked else with_body key close (body_length fields)
    else Err fault.BadMedia

-- the tests of a head, from its method, target, minor version and fields, in their order
abbrev pub wanted_by : List ℕ → List ℕ → ℕ → List NameAndValue → Result Wants FrontFault
wanted_by method target minor fields =
    if bytes_eq target (codes "/graphql") then
    if bytes_eq method (codes "POST") then with_key (nat_eq minor 0 || says_close fields) fields (key_in fields) else Err fault.BadMethod
    else Err fault.NotFound

-- what a head asks for
abbrev pub wanted : RequestHead → Result Wants FrontFault
wanted head = wanted_by head.method head.target head.minor (map name_and_value head.fields)

-- ---- in the service of the code

abbrev pub WantedIs : Result Wanted FrontFault → Result Wants FrontFault → Type 0
WantedIs (Ok found) is = is ≡ Ok (wants found.key.now found.length found.close)
WantedIs (Err f) is = is ≡ Err f
