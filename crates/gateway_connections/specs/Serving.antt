-- What serving a connection did: at the accounts, and to what stands outside.
use Rattle.std.specs.Prelude.{◌≡◌, ℕ, ◌<◌, Bool, false, List, [], ◌∷◌, ◌++◌, Option, Some, None, IsTrue, IfSome, length}
use Rattle.std.specs.Io.KnownBytes.{Appends, IsAtEnd}
use Rattle.account_core.specs.Machine.{Call}
use Rattle.account_shared.specs.Gains.{ClientCall}
use Rattle.outside.specs.Dials.{LoggedBy}
use Rattle.outside.specs.Faults.{RoseBy}
use Rattle.outside.specs.Taken.{Took}
use Rattle.outside.specs.Ticks.{Tick, Ticks}
use Rattle.doors.specs.Visits.{Told}
use Rattle.gateway_core.specs.declared.ledger.Ledger.{Ghosts as Ledgers}
use Rattle.http_front.specs.declared.front.Ask.{Ask}
use Rattle.http_front.specs.Asks.{IsAsk}
use Rattle.gateway_connections.specs.declared.ending.Served.{Served}
use Rattle.gateway_connections.specs.Replies.{written}
use Rattle.gateway_connections.specs.Exchanges.{Service, Exchange, WireTelling, IsExchange, LosesExchange, AreExchanges}
use Rattle.gateway_connections.specs.Connections.{Connection, Stop, StopsAt, EndsWith, AsksTo, GoesOn, replies_from, closes, last_of, all_of, calls_of, dials_of, moments_of, downs_of, failures_of}

-- What exchanges did outside: a reading of the clock for each, and their dials.
pub record Leaves (given back : Told) (exchanges : List Exchange) : Type 0 where
  pub ticks : Ticks given.readings (moments_of exchanges) back.readings
  pub logged : LoggedBy back.dial_faults given.log (dials_of exchanges) back.log
  pub downs : RoseBy (downs_of exchanges) given.dial_faults back.dial_faults
  pub failures : RoseBy (failures_of exchanges) given.transfer_faults back.transfer_faults

-- A connection as it went behind so many numbers of calls: it took these bytes, and made these calls.
pub record Runs (s : Service) (made : ℕ) (given back : Told) (calls : List ClientCall) (served : Served) : Type 0 where
  pub bytes : List ℕ
  pub ended : Bool
  pub took : Took given.left bytes back.left
  pub at_end : IsTrue ended → IsAtEnd back.left
  pub connection : Connection s made bytes ended given.written back.written served.replies served.end
  pub leaves : Leaves given back (all_of connection.exchanges connection.stop)
  pub calls_are : calls ≡ calls_of (all_of connection.exchanges connection.stop)

-- A connection was served behind so many numbers of calls: just its calls were gained at the accounts.
pub record Serves (s : Service) (made : ℕ) (Gained : List ClientCall → Type 0) (given back : Told) (served : Served) : Type 0 where
  pub calls : List ClientCall
  pub runs : Runs s made given back calls served
  pub gains : Gained calls

-- Just these exchanges were made.
pub record Makes (Gained : List ClientCall → Type 0) (given back : Told) (exchanges : List Exchange) : Type 0 where
  pub gains : Gained (calls_of exchanges)
  pub leaves : Leaves given back exchanges

-- After these exchanges, none of whose replies carries `close`, the connection goes on: these bytes were taken, and those are kept.
pub record GoesOnAfter (s : Service) (made : ℕ) (Gained : List ClientCall → Type 0) (number : ℕ) (kept : List ℕ) (given back : Told) : Type 0 where
  pub exchanges : List Exchange
  pub each : AreExchanges s made exchanges
  pub goes_on : GoesOn exchanges
  pub few : number < 1000
  pub counted : number ≡ length exchanges
  pub bytes : List ℕ
  pub took : Took given.left bytes back.left
  pub asks : AsksTo s.passed bytes exchanges kept
  pub makes : Makes Gained given back exchanges
  pub out : Appends given.written back.written (replies_from 0 exchanges)

-- A request was read behind those that were kept, and in its exchange the accounts were lost. Nothing was written. `Lost` says of a
-- request at a moment how its exchange went.
pub record LosesTurn (s : Service) (kept : List ℕ) (Lost : Ask → ℕ → Type 0) (given back : Told) : Type 0 where
  pub bytes : List ℕ
  pub took : Took given.left bytes back.left
  pub ask : Ask
  pub rest : List ℕ
  pub is_ask : IsAsk s.passed (kept ++ bytes) ask rest
  pub moment : ℕ
  pub tick : Tick given.readings moment back.readings
  pub still : back.written ≡ given.written
  pub lost : Lost ask moment

-- So it was between two moments of the accounts, where the front kept some bytes before.
abbrev pub LosesNext : {B Lost W : Type 0} → Service → Ledgers B Lost → WireTelling W → Option (List ℕ) → B → B → Told → Told → W → W → Type 0
LosesNext s book t kept before now given back wire after = IfSome kept (λ bytes. LosesTurn s bytes
    (λ ask moment. LosesExchange s t ask moment (book.made before) (book.gains before) (λ between. book.loses between now) wire after) given back)

-- A connection was served until the accounts were lost: these exchanges were made and replied to, so many, and the next one has no
-- reply. `made` counts the calls of accounts, and `gains` says what was gained between two moments of them.
pub record LosesServing {B W : Type 0} (s : Service) (t : WireTelling W) (made : B → ℕ) (gains : B → B → List ClientCall → Type 0) (loses : B → ℕ → Call → Type 0)
    (first : B) (given back : Told) (after : W) (replies : ℕ) : Type 0 where
  pub so_far : B
  pub kept : List ℕ
  pub between : Told
  pub wire : W
  pub logs : between.log ≡ t.log wire
  pub goes_on : GoesOnAfter s (made first) (gains first so_far) replies kept given between
  pub lost : LosesTurn s kept (λ ask moment. LosesExchange s t ask moment (made so_far) (gains so_far) loses wire after) between back

-- ---- what serves proofs

-- One turn behind so many exchanges: an exchange more after which the connection goes on, or where it stopped.
abbrev pub TurnsTo : Service → ℕ → ℕ → List ℕ → Bool → Option (List ℕ) → List Exchange → Option (List ℕ) → Option (List ℕ) → Option Served → Type 0
TurnsTo s number made here ended front exchanges before after None =
    (x : Exchange) × (rest : List ℕ) × (exchanges ≡ x ∷ []) × IsAsk s.passed here x.ask rest × (front ≡ Some rest)
    × IsExchange s made (Unit {0}) x × (closes number x ≡ false) × Appends before after (written false x.reply)
TurnsTo s number made here ended front exchanges before after (Some served) =
    (stop : Stop) × (exchanges ≡ last_of stop) × StopsAt s number made here ended stop
    × EndsWith number stop before after served.replies served.end

-- A turn took these bytes behind those that were kept, and just these exchanges were made.
pub record Turns (s : Service) (made : ℕ) (Gained : List ClientCall → Type 0) (number : ℕ) (kept : List ℕ) (front : Option (List ℕ)) (given back : Told) (result : Option Served) : Type 0 where
  pub bytes : List ℕ
  pub ended : Bool
  pub took : Took given.left bytes back.left
  pub at_end : IsTrue ended → IsAtEnd back.left
  pub exchanges : List Exchange
  pub makes : Makes Gained given back exchanges
  pub turned : TurnsTo s number made (kept ++ bytes) ended front exchanges given.written back.written result

-- So it is where the front kept some bytes before, and did not answer a fault yet.
abbrev pub TurnsFrom : Service → ℕ → (List ClientCall → Type 0) → ℕ → Option (List ℕ) → Option (List ℕ) → Told → Told → Option Served → Type 0
TurnsFrom s made Gained number kept front given back result = IfSome kept (λ bytes. Turns s made Gained number bytes front given back result)
