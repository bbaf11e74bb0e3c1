-- A connection: exchanges one after the other, and how it stopped.
use Rattle.std.specs.Prelude.{◌≡◌, ◌≢◌, ℕ, ◌+◌, ◌<◌, ◌⊎◌, ◌||◌, ◌==◌, Bool, true, false, List, [], ◌∷◌, ◌++◌, map, length, Option, Some, None, ⊤}
use Rattle.std.specs.List.{AllByRecursion}
use Rattle.std.specs.Io.KnownBytes.{Appends}
use Rattle.account_shared.specs.Gains.{ClientCall}
use Rattle.outside.specs.Contents.{AppendsFront}
use Rattle.outside.specs.Dials.{Dial}
use Rattle.http_front.specs.declared.fault.FrontFault.{FrontFault}
use Rattle.http_front.specs.declared.fault.FrontFault.TheVariants as fault
use Rattle.http_front.specs.Asks.{IsAsk, HasFault}
use Rattle.gateway_core.specs.Numbers.{numbers_taken}
use Rattle.gateway_connections.specs.declared.reply.Reply.{Reply}
use Rattle.gateway_connections.specs.declared.ending.ConnectionEnd.{ConnectionEnd}
use Rattle.gateway_connections.specs.declared.ending.Served.{Served}
use Rattle.gateway_connections.specs.declared.ending.ConnectionEnd.TheVariants as ending
use Rattle.gateway_connections.specs.Replies.{written, IsFaultReply}
use Rattle.gateway_connections.specs.Exchanges.{Service, Exchange, IsExchange, AreExchanges, downs, failures}

-- The bytes are the requests of the exchanges, one after the other, each with the lines of its fields of these names; and then the rest.
unfoldable pub AsksTo : List (List ℕ) → List ℕ → List Exchange → List ℕ → Type 0
AsksTo names bytes [] rest = bytes ≡ rest
AsksTo names bytes (x ∷ xs) rest = (after : List ℕ) × IsAsk names bytes x.ask after × AsksTo names after xs rest

-- ---- what exchanges add up to

unfoldable pub calls_of : List Exchange → List ClientCall
calls_of [] = []
calls_of (x ∷ xs) = x.calls ++ calls_of xs

unfoldable pub dials_of : List Exchange → List Dial
dials_of [] = []
dials_of (x ∷ xs) = x.dials ++ dials_of xs

abbrev pub moments_of : List Exchange → List ℕ
moments_of xs = map (λ x. x.moment) xs

-- how many dials nobody answered, and how many transfers failed
unfoldable pub downs_of : List Exchange → ℕ
downs_of [] = 0
downs_of (x ∷ xs) = downs x.outcome + downs_of xs

unfoldable pub failures_of : List Exchange → ℕ
failures_of [] = 0
failures_of (x ∷ xs) = failures x.outcome + failures_of xs

-- ---- replies

-- The reply to the exchange behind so many carries `close`: the request says so, it is the thousandth, or memory was wanting.
abbrev pub carries : Bool → ℕ → Reply → Bool
carries close number r = close || ((number + 1 == 1000) || (r.status == 500))

abbrev pub closes : ℕ → Exchange → Bool
closes number x = carries x.ask.close number x.reply

-- the replies to exchanges, the first of which stands behind so many
unfoldable pub replies_from : ℕ → List Exchange → List ℕ
replies_from number [] = []
replies_from number (x ∷ xs) = written (closes number x) x.reply ++ replies_from (number + 1) xs

-- no reply of theirs carries `close`
abbrev pub GoesOn : List Exchange → Type 0
GoesOn xs = AllByRecursion (λ x. (x.ask.close ≡ false) × (x.reply.status ≢ 500)) xs

-- ---- how a connection stopped

-- the number of an end
abbrev pub end_number : ConnectionEnd → ℕ
end_number ending.Closed = 1
end_number ending.ReadFault = 2
end_number ending.WriteFault = 3
end_number ending.Limit = 4
end_number ending.Memory = 5
end_number ending.Lost = 6

-- For want of memory it never began; the next request couldn't be read, and that was replied to or not; or the reply to an
-- exchange carried `close`.
pub data Stop : Type 0 where
  not_begun : Stop
  at_fault : FrontFault → Option Reply → Stop
  after_last : Exchange → Stop

-- the exchange after which it stopped, if it is that
abbrev pub last_of : Stop → List Exchange
last_of (after_last x) = x ∷ []
last_of other = []

-- what is written where it stops behind so many exchanges
abbrev pub last_bytes : ℕ → Stop → List ℕ
last_bytes number not_begun = []
last_bytes number (at_fault f None) = []
last_bytes number (at_fault f (Some r)) = written true r
last_bytes number (after_last x) = written (closes number x) x.reply

-- how many replies that are
abbrev pub last_count : Stop → ℕ
last_count not_begun = 0
last_count (at_fault f None) = 0
last_count (at_fault f (Some r)) = 1
last_count (after_last x) = 1

-- the end after a reply of this status behind so many exchanges
abbrev pub EndsAfter : ℕ → ℕ → ConnectionEnd → Type 0
EndsAfter number status end =
    ((status ≡ 500) × (end ≡ ending.Memory))
    ⊎ ((status ≢ 500) × (number + 1 ≡ 1000) × (end ≡ ending.Limit))
    ⊎ ((status ≢ 500) × (number + 1 < 1000) × (end ≡ ending.Closed))

-- The end where all was written that is replied.
abbrev pub EndIs : ℕ → Stop → ConnectionEnd → Type 0
EndIs number not_begun end = end ≡ ending.Memory
EndIs number (at_fault fault.ReadFault None) end = end ≡ ending.ReadFault
EndIs number (at_fault f None) end = end ≡ ending.Closed
EndIs number (at_fault f (Some r)) end = EndsAfter number r.status end
EndIs number (after_last x) end = (closes number x ≡ true) × EndsAfter number x.reply.status end

-- Where it stops: behind so many exchanges and numbers of calls, with these bytes to come. Of what it takes no further request is read.
abbrev pub StopsAt : Service → ℕ → ℕ → List ℕ → Bool → Stop → Type 0
StopsAt s number made here ended not_begun = (number ≡ 0) × (here ≡ []) × (ended ≡ false)
StopsAt s number made here ended (at_fault f r) = HasFault here ended f × IsFaultReply f r
StopsAt s number made here ended (after_last x) = ((rest : List ℕ) × IsAsk s.passed here x.ask rest) × IsExchange s made ⊤ x

-- What is replied where it stops was written, and the end is that of the stop; or that reply was cut off, since the sink failed.
abbrev pub EndsWith : ℕ → Stop → Option (List ℕ) → Option (List ℕ) → ℕ → ConnectionEnd → Type 0
EndsWith number stop before after count end =
    (Appends before after (last_bytes number stop) × (count ≡ number + last_count stop) × EndIs number stop end)
    ⊎ (AppendsFront before after (last_bytes number stop) × (count ≡ number) × (end ≡ ending.WriteFault))

-- A connection: of these bytes, behind so many numbers of calls, with what was written before and after it, this count of replies that
-- were written whole, and this end.
pub record Connection (s : Service) (made : ℕ) (bytes : List ℕ) (ended : Bool) (before after : Option (List ℕ))
    (count : ℕ) (end : ConnectionEnd) : Type 0 where
  pub exchanges : List Exchange
  pub each : AreExchanges s made exchanges
  pub goes_on : GoesOn exchanges
  pub few : length exchanges < 1000
  pub here : List ℕ
  pub asks : AsksTo s.passed bytes exchanges here
  pub stop : Stop
  pub stops : StopsAt s (length exchanges) (made + numbers_taken s.slots (calls_of exchanges)) here ended stop
  -- what was written before the reply of the stop
  pub between : Option (List ℕ)
  pub replied : Appends before between (replies_from 0 exchanges)
  pub out : EndsWith (length exchanges) stop between after count end

-- ---- what serves proofs

-- What was replied to a fault behind so many exchanges.
abbrev pub Refuses : FrontFault → ℕ → Option (List ℕ) → Option (List ℕ) → ℕ → ConnectionEnd → Type 0
Refuses f number before after count end = (r : Option Reply) × IsFaultReply f r × EndsWith number (at_fault f r) before after count end

-- What was replied to an exchange behind so many others, where its request says that the connection closes or doesn't.
abbrev pub Answers : Reply → Bool → ℕ → Option (List ℕ) → Option (List ℕ) → Option Served → Type 0
Answers r close number before after None = (carries close number r ≡ false) × Appends before after (written false r)
Answers r close number before after (Some served) =
    ((carries close number r ≡ true) × Appends before after (written true r) × (served.replies ≡ number + 1) × EndsAfter number r.status served.end)
    ⊎ (AppendsFront before after (written (carries close number r) r) × (served.replies ≡ number) × (served.end ≡ ending.WriteFault))

-- where it ended so, this holds
abbrev pub IfEndsBy : ConnectionEnd → Option Served → Type 0 → Type 0
IfEndsBy end None P = ⊤
IfEndsBy end (Some served) P = served.end ≡ end → P

-- unless it ended so, this holds
abbrev pub UnlessEndsBy : ConnectionEnd → Option Served → Type 0 → Type 0
UnlessEndsBy end None P = P
UnlessEndsBy end (Some served) P = served.end ≢ end → P

-- all its exchanges
abbrev pub all_of : List Exchange → Stop → List Exchange
all_of xs stop = xs ++ last_of stop
