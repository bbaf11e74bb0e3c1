-- In the service of the code: what its parts answer.
use Rattle.std.specs.Prelude.{◌≡◌, ℕ, ◌-◌, ◌≤◌, ◌<◌, Bool, false, List, [], ◌++◌, map, length, Option, Some, None, Result, Ok, Err, IsTrue, ⊤}
use Rattle.httparse.specs.Grammar.{RequestHead, print_request}
use Rattle.httparse.specs.Spans.{IsRequestAt, IsRequestWithin, name_and_value}
use Rattle.httparse.specs.declared.spans.HeaderSpan.{HeaderSpan}
use Rattle.httparse.specs.declared.spans.RequestSpans.{RequestSpans}
use Rattle.http_front.specs.declared.fault.FrontFault.{FrontFault}
use Rattle.http_front.specs.declared.fault.FrontFault.TheVariants as fault
use Rattle.http_front.specs.declared.front.Ask.{Ask}
use Rattle.http_front.specs.declared.head.Head.{Head}
use Rattle.http_front.specs.Heads.{wants}
use Rattle.http_front.specs.Passed.{passed_lines}
use Rattle.http_front.specs.Asks.{in_room, BeginsWithHead, AsksFor, IsPartOfHead, IsAsk, HasFault, IsOfBytes}

-- the faults of the tests of a head
abbrev pub IsOfHead : FrontFault → Type 0
IsOfHead fault.NotFound = ⊤
IsOfHead fault.BadMethod = ⊤
IsOfHead fault.NoKey = ⊤
IsOfHead fault.Coded = ⊤
IsOfHead fault.BadMedia = ⊤
IsOfHead fault.Chunked = ⊤
IsOfHead fault.NoLength = ⊤
IsOfHead fault.BadLength = ⊤
IsOfHead (fault.BodyTooLarge n) = ⊤
IsOfHead f = ⊥

-- a head at the front, as the code keeps it
pub record HeadIs (names : List (List ℕ)) (bytes : List ℕ) (head : Head) : Type 0 where
  pub of : RequestHead
  pub asks : AsksFor bytes of (wants head.key head.length head.close)
  pub passed : head.passed.items ≡ passed_lines names (map name_and_value of.fields)
  pub len : head.len ≡ length (print_request of)

-- a whole head at the front, by its spans
pub record HeadFound (bytes : List ℕ) (headers : List HeaderSpan) (spans : RequestSpans) : Type 0 where
  pub within : IsRequestWithin (in_room bytes) headers spans
  pub head : RequestHead
  pub at : IsRequestAt (in_room bytes) headers spans head
  pub begins : BeginsWithHead bytes head

-- one look for a head
abbrev pub FoundIs : List ℕ → List HeaderSpan → Result (Option RequestSpans) FrontFault → Type 0
FoundIs bytes headers (Ok (Some spans)) = HeadFound bytes headers spans
FoundIs bytes headers (Ok None) = IsPartOfHead bytes × (length bytes < 16384)
FoundIs bytes headers (Err f) = HasFault bytes false f × IsOfBytes f

-- one look at the bytes
abbrev pub LookIs : List (List ℕ) → List ℕ → Result (Option Head) FrontFault → Type 0
LookIs names bytes (Ok (Some head)) = HeadIs names bytes head
LookIs names bytes (Ok None) = IsPartOfHead bytes × (length bytes < 16384)
LookIs names bytes (Err f) = HasFault bytes false f

-- one piece more, behind the old bytes
abbrev pub PieceSays : List ℕ → List ℕ → List ℕ → Result Bool FrontFault → Type 0
PieceSays old new piece (Ok ended) = (new ≡ old ++ piece) × (IsTrue ended → piece ≡ []) × (ended ≡ false → 0 < length piece)
PieceSays old new piece (Err fault.ReadFault) = piece ≡ []
PieceSays old new piece (Err fault.Memory) = ⊤
PieceSays old new piece (Err f) = ⊥

abbrev pub HeadSays : List (List ℕ) → List ℕ → Result Head FrontFault → List ℕ → Bool → Type 0
HeadSays names new (Ok head) bytes ended = HeadIs names bytes head × (new ≡ bytes)
HeadSays names new (Err f) bytes ended = HasFault bytes ended f

abbrev pub BodySays : ℕ → List ℕ → Result (Unit {0}) FrontFault → List ℕ → Bool → Type 0
BodySays total new (Ok u) bytes ended = (total ≤ length bytes) × (new ≡ bytes)
BodySays total new (Err (fault.Truncated missing)) bytes ended = (length bytes < total) × (missing ≡ total - length bytes) × IsTrue ended
BodySays total new (Err fault.ReadFault) bytes ended = (length bytes < total) × (ended ≡ false)
BodySays total new (Err fault.Memory) bytes ended = ⊤
BodySays total new (Err f) bytes ended = ⊥

abbrev pub AskSays : List (List ℕ) → List ℕ → Result Ask FrontFault → List ℕ → Bool → Type 0
AskSays names new (Ok ask) bytes ended = IsAsk names bytes ask new
AskSays names new (Err f) bytes ended = HasFault bytes ended f

-- the end before a whole head
abbrev pub AtEndIs : List ℕ → FrontFault → Type 0
AtEndIs bytes fault.End = bytes ≡ []
AtEndIs bytes fault.BadHead = 0 < length bytes
AtEndIs bytes f = ⊥
