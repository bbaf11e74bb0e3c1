-- The request at the front of bytes, or the first fault there.
use Rattle.std.specs.Prelude.{◌≡◌, ◌≢◌, ℕ, ◌-◌, ◌≤◌, ◌<◌, ◌⊎◌, Bool, false, List, [], map, length, take, drop, Option, Some, None, Result, Ok, Err, IsTrue, ⊤}
use Rattle.httparse.specs.Grammar.{RequestHead, print_request, ReadsRequest, HasNoRequest, NeverHasRequest, MayBecomeRequest, EndsInTarget}
use Rattle.httparse.specs.Spans.{RequestExceeds, RequestOverflows, name_and_value}
use Rattle.http_front.specs.declared.fault.FrontFault.{FrontFault}
use Rattle.http_front.specs.declared.fault.FrontFault.TheVariants as fault
use Rattle.http_front.specs.declared.front.Ask.{Ask}
use Rattle.http_front.specs.Heads.{Wants, wanted}
use Rattle.http_front.specs.Passed.{passed_lines}

-- a head has at most 16,384 bytes
abbrev pub in_room : List ℕ → List ℕ
in_room bytes = take 16384 bytes

-- this head stands at the front, whole, and has at most 64 fields
abbrev pub BeginsWithHead : List ℕ → RequestHead → Type 0
BeginsWithHead bytes head = (rest : List ℕ) × ReadsRequest (in_room bytes) head rest × (length head.fields ≤ 64)

-- no head begins so, whatever follows
abbrev pub IsNoHead : List ℕ → Type 0
IsNoHead bytes = NeverHasRequest (in_room bytes)

-- no whole head is there, and with other bytes behind them there may be one
abbrev pub IsPartOfHead : List ℕ → Type 0
IsPartOfHead bytes = HasNoRequest (in_room bytes) × MayBecomeRequest (in_room bytes)

-- there are more than 64 fields already, so that a head at the front has more, whatever follows
abbrev pub HasTooManyFields : List ℕ → Type 0
HasTooManyFields bytes = RequestExceeds 64 (in_room bytes) × RequestOverflows 64 (in_room bytes)

-- the bytes behind the head
abbrev pub behind : RequestHead → List ℕ → List ℕ
behind head bytes = drop (length (print_request head)) bytes

-- a head at the front asks for this
abbrev pub AsksFor : List ℕ → RequestHead → Wants → Type 0
AsksFor bytes head wants = BeginsWithHead bytes head × (wanted head ≡ Ok wants)

-- a head at the front is refused with this fault
abbrev pub IsRefused : List ℕ → FrontFault → Type 0
IsRefused bytes f = (head : RequestHead) × BeginsWithHead bytes head × (wanted head ≡ Err f)

-- The request at the front of the bytes, with the lines of its fields of these names, and the bytes behind it.
pub record IsAsk (names : List (List ℕ)) (bytes : List ℕ) (ask : Ask) (rest : List ℕ) : Type 0 where
  pub head : RequestHead
  pub wants : Wants
  pub asks : AsksFor bytes head wants
  pub key : ask.key ≡ wants.key
  pub close : ask.close ≡ wants.close
  pub passed : ask.passed.items ≡ passed_lines names (map name_and_value head.fields)
  pub enough : wants.length ≤ length (behind head bytes)
  pub body : ask.body.items ≡ take wants.length (behind head bytes)
  pub rest_is : rest ≡ drop wants.length (behind head bytes)

-- So many bytes of the body are missing.
pub record Lacks (bytes : List ℕ) (missing : ℕ) : Type 0 where
  pub head : RequestHead
  pub wants : Wants
  pub asks : AsksFor bytes head wants
  pub short : length (behind head bytes) < wants.length
  pub missing_is : missing ≡ wants.length - length (behind head bytes)

-- whether there is a request takes more bytes
abbrev pub IsUndecided : List ℕ → Type 0
IsUndecided bytes = (IsPartOfHead bytes × (length bytes < 16384)) ⊎ ((missing : ℕ) × Lacks bytes missing)

-- The first fault at the front of the bytes. `ended` says that the end was met after them.
abbrev pub HasFault : List ℕ → Bool → FrontFault → Type 0
HasFault bytes ended fault.End = (bytes ≡ []) × IsTrue ended
HasFault bytes ended fault.BadHead =
    IsNoHead bytes ⊎ (IsPartOfHead bytes × (length bytes < 16384) × (0 < length bytes) × IsTrue ended)
HasFault bytes ended fault.HeadTooLarge = HasTooManyFields bytes ⊎ (IsPartOfHead bytes × (16384 ≤ length bytes))
HasFault bytes ended (fault.Truncated missing) = Lacks bytes missing × IsTrue ended
HasFault bytes ended fault.ReadFault = IsUndecided bytes × (ended ≡ false)
HasFault bytes ended fault.Memory = ⊤
HasFault bytes ended f = IsRefused bytes f

-- ---- one answer

-- A whole request stands at the front.
pub record HoldsRequest (bytes : List ℕ) : Type 0 where
  pub head : RequestHead
  pub wants : Wants
  pub asks : AsksFor bytes head wants
  pub enough : wants.length ≤ length (behind head bytes)

-- it is neither that the source failed nor want of memory
abbrev pub IsOfBytes : FrontFault → Type 0
IsOfBytes f = (f ≢ fault.ReadFault) × (f ≢ fault.Memory)

-- the bytes have a fault that is one of theirs
abbrev pub HoldsFault : List ℕ → Bool → Type 0
HoldsFault bytes ended = (f : FrontFault) × HasFault bytes ended f × IsOfBytes f

-- it is told before a whole head stands there
abbrev pub IsBeforeHead : FrontFault → Type 0
IsBeforeHead fault.End = ⊤
IsBeforeHead fault.BadHead = ⊤
IsBeforeHead fault.HeadTooLarge = ⊤
IsBeforeHead fault.ReadFault = ⊤
IsBeforeHead f = ⊥

-- What the grammar of heads leaves open: inside a target that can't become text, whose bytes are tested where it ends;
-- and behind more than 64 fields.
abbrev pub IsLeftOpen : List ℕ → Type 0
IsLeftOpen bytes = (IsNoHead bytes × EndsInTarget (in_room bytes)) ⊎ HasTooManyFields bytes

-- Two faults are the same, or one is want of memory, or both are told before a whole head where it is left open which.
abbrev pub AreOne : List ℕ → FrontFault → FrontFault → Type 0
AreOne bytes f g = (f ≡ g) ⊎ ((f ≡ fault.Memory) ⊎ ((g ≡ fault.Memory) ⊎ (IsBeforeHead f × IsBeforeHead g × IsLeftOpen bytes)))

-- ---- what a front answers

-- What the bytes hold at their front is what was answered, and the front keeps the bytes behind it, or nothing
-- after a fault.
abbrev pub AskOf : List (List ℕ) → Option (List ℕ) → Result Ask FrontFault → List ℕ → Bool → Type 0
AskOf names after (Ok ask) bytes ended = (rest : List ℕ) × (after ≡ Some rest) × IsAsk names bytes ask rest
AskOf names after (Err f) bytes ended = (after ≡ None) × HasFault bytes ended f
