-- One exchange: a request of a client, and its reply.
use Rattle.std.specs.Prelude.{◌≡◌, ◌⊎◌, ℕ, ◌+◌, Bool, List, [], ◌∷◌, Option, Some, None, Result, Ok, Err, ⊤, if◌then◌else◌}
use Rattle.account_core.specs.Machine.{Call, reservation, granted}
use Rattle.account_shared.specs.Gains.{ClientCall, client_call}
use Rattle.outside.specs.Dials.{Dial, LoggedBy}
use Rattle.outside.specs.Faults.{RoseBy}
use Rattle.outside.specs.declared.wire.Wire.{Ghosts as Wires}
use Rattle.http_front.specs.declared.front.Ask.{Ask}
use Rattle.http_front.specs.declared.reply.Hint.{Hint}
use Rattle.upstream_link.specs.declared.fault.LinkFault.{LinkFault}
use Rattle.upstream_link.specs.declared.fault.LinkFault.TheVariants.{Down, Failed}
use Rattle.upstream_link.specs.declared.reply.UpstreamReply.{UpstreamReply}
use Rattle.upstream_link.specs.Exchanges.{CameTo}
use Rattle.upstream_link.specs.RequestBytes.{request_bytes}
use Rattle.gateway_core.specs.declared.beginning.Denial.{Denial}
use Rattle.gateway_core.specs.declared.beginning.Denial.TheVariants.{Short}
use Rattle.gateway_core.specs.declared.beginning.Begun.TheVariants.{Denied}
use Rattle.gateway_core.specs.declared.beginning.LocalAnswer.{LocalAnswer}
use Rattle.gateway_core.specs.declared.grant.Grant.{Grant}
use Rattle.gateway_core.specs.declared.gate.Gate.{Gate}
use Rattle.gateway_core.specs.declared.finishing.Outcome.{Outcome}
use Rattle.gateway_core.specs.declared.finishing.Outcome.TheVariants.{Reply as Replied, Fault}
use Rattle.gateway_core.specs.declared.finishing.Finished.{Finished}
use Rattle.gateway_core.specs.Rules.{Rules, window_of, seconds_left, may_have_room}
use Rattle.gateway_core.specs.Gates.{rules_of}
use Rattle.gateway_core.specs.Numbers.{numbers_taken, IsFullAt}
use Rattle.gateway_core.specs.Begins.{IsDenied, IsGranted, IsAnswered, TellsFull, calls_begun, calls_answered}
use Rattle.gateway_core.specs.Losses.{LosesBegun, LosesFinished}
use Rattle.gateway_core.specs.Finishes.{IsFinished, settling}
use Rattle.gateway_connections.specs.declared.reply.Reply.{Reply}
use Rattle.gateway_connections.specs.Replies.{IsDenialReply, finished_reply}

-- By what requests are decided, where they are forwarded to and with which fields, and whether clients whose accounts are short are
-- told when they may try again; and, where numbers of calls are slots of a journal, how many slots there are.
pub record Service : Type 0 where
  pub rules : Rules
  pub host : List ℕ
  pub target : List ℕ
  pub passed : List (List ℕ)
  pub hints : Bool
  pub slots : Option ℕ

-- of a gate, over accounts whose calls have numbers of this kind
abbrev pub service_in : Option ℕ → Gate → Service
service_in slots g = record { rules = rules_of g; host = g.settings.host; target = g.settings.target; passed = g.settings.passed.items; hints = g.settings.hints; slots = slots }

-- over the gate's own cells
abbrev pub service_of : Gate → Service
service_of g = service_in None g

-- An exchange as it went: the request, the moment, the calls at the accounts, what the upstream made of it where it was
-- forwarded, its dials, and the reply.
pub record Exchange : Type 0 where
  pub ask : Ask
  pub moment : ℕ
  pub calls : List ClientCall
  pub outcome : Option Outcome
  pub dials : List Dial
  pub reply : Reply

-- ---- denied

-- what is told at a moment to the client with this key whose account is short: the seconds up to the next window, and what the account
-- has left. Where the account may never have room for the bound, waiting doesn't help, and nothing is told.
abbrev pub short_hint : Rules → List ℕ → ℕ → Denial → Option Hint
short_hint rules key moment (Short left bound) = if may_have_room rules key bound then Some record { seconds = seconds_left rules moment; left = left } else None
short_hint rules key moment other = None

-- what is told with a denial, where clients are told when they may try again
abbrev pub hint_of : Service → List ℕ → ℕ → Denial → Option Hint
hint_of s key moment denial = if s.hints then short_hint s.rules key moment denial else None

-- It was denied: at most the one call of an account that was short was made, and nobody was dialled. It is denied as full just where
-- there was no room for a grant.
pub record WasDenied (s : Service) (made : ℕ) (Untouched : Type 0) (x : Exchange) : Type 0 where
  pub client : ℕ
  pub denial : Denial
  pub denied : IsDenied s.rules x.ask.key x.ask.body.items client denial
  pub calls : x.calls ≡ calls_begun client (window_of s.rules x.moment) (Denied denial)
  pub full : TellsFull (IsFullAt s.slots made) (Denied denial)
  pub outcome : x.outcome ≡ None
  pub dials : x.dials ≡ []
  pub untouched : Untouched
  pub reply : IsDenialReply (hint_of s x.ask.key x.moment denial) denial x.reply

-- ---- forwarded

-- what a request to the upstream came to, as an outcome
abbrev pub outcome_of : Result UpstreamReply LinkFault → Outcome
outcome_of (Ok reply) = Replied reply
outcome_of (Err f) = Fault f

-- It was granted: its bound was reserved; then it was forwarded, with the lines of those of its own fields that are passed on; and
-- what became of it there decides the reply, and the charge at which it was settled.
pub record WasForwarded (s : Service) (made : ℕ) (untouched : Type 0) (x : Exchange) : Type 0 where
  pub client : ℕ
  pub grant : Grant
  pub is_granted : IsGranted s.rules x.ask.key x.ask.body.items client made grant
  pub room : IsFullAt s.slots made → ⊥
  pub asked : Result UpstreamReply LinkFault
  pub came_to : CameTo untouched (request_bytes s.host s.target x.ask.passed.items grant.forward) asked x.dials
  pub outcome : x.outcome ≡ Some (outcome_of asked)
  pub finished : Finished
  pub is_finished : IsFinished grant (outcome_of asked) finished
  pub bound : finished.bound ≡ grant.ticket.bound
  pub calls : x.calls ≡ client_call client (reservation (window_of s.rules x.moment) grant.ticket.bound) (granted grant.ticket.window)
      ∷ settling grant.ticket finished.charged ∷ []
  pub reply : x.reply ≡ finished_reply finished

-- It was answered by the gateway, from what it knows of its schema: what the answer costs was reserved and settled, and nobody was
-- dialled.
pub record WasAnswered (s : Service) (made : ℕ) (Untouched : Type 0) (x : Exchange) : Type 0 where
  pub client : ℕ
  pub answer : LocalAnswer
  pub is_answered : IsAnswered s.rules x.ask.key x.ask.body.items client made answer
  pub room : IsFullAt s.slots made → ⊥
  pub calls : x.calls ≡ calls_answered client (window_of s.rules x.moment) answer
  pub outcome : x.outcome ≡ None
  pub dials : x.dials ≡ []
  pub untouched : Untouched
  pub reply : x.reply ≡ finished_reply answer.finished

-- How an exchange goes behind so many numbers of calls. `untouched` says that the wire is as it was.
abbrev pub IsExchange : Service → ℕ → Type 0 → Exchange → Type 0
IsExchange s made untouched x = WasDenied s made untouched x ⊎ WasForwarded s made untouched x ⊎ WasAnswered s made untouched x

-- ---- faults of the upstream

-- 1 where nobody answered the dial
abbrev pub downs : Option Outcome → ℕ
downs (Some (Fault Down)) = 1
downs other = 0

-- 1 where a transfer failed
abbrev pub failures : Option Outcome → ℕ
failures (Some (Fault Failed)) = 1
failures other = 0

-- ---- what an exchange did

-- what a wire tells: its dials, and the counts of its faults
pub record WireTelling (W : Type 0) : Type 0 where
  pub log : W → Option (List Dial)
  pub dial_faults : W → ℕ
  pub faults : W → ℕ

-- the same of a wire
abbrev pub telling : {W : Type 0} → Wires W → WireTelling W
telling wires = record { log = wires.log; dial_faults = wires.dial_faults; faults = wires.faults }

-- An exchange was made behind so many numbers of calls: its calls at the accounts, which are what was gained there, and its dials, and
-- no others.
pub record Exchanges {W : Type 0} (s : Service) (t : WireTelling W) (made : ℕ) (Gained : List ClientCall → Type 0) (wire after : W) (x : Exchange) : Type 0 where
  pub is_exchange : IsExchange s made (after ≡ wire) x
  pub gains : Gained x.calls
  pub logged : LoggedBy (t.dial_faults after) (t.log wire) x.dials (t.log after)
  pub downs : RoseBy (downs x.outcome) (t.dial_faults wire) (t.dial_faults after)
  pub failures : RoseBy (failures x.outcome) (t.faults wire) (t.faults after)

-- It was an exchange for what was asked, with this reply.
pub record Replies {W : Type 0} (s : Service) (t : WireTelling W) (ask : Ask) (moment made : ℕ) (Gained : List ClientCall → Type 0) (wire after : W) (reply : Reply) : Type 0 where
  pub exchange : Exchange
  pub asked : exchange.ask ≡ ask
  pub at : exchange.moment ≡ moment
  pub replied : exchange.reply ≡ reply
  pub exchanges : Exchanges s t made Gained wire after exchange

-- A granted request was forwarded with these lines of further fields, and finished, with this reply.
pub record Forwards {W : Type 0} (s : Service) (t : WireTelling W) (grant : Grant) (lines : List ℕ) (Gained : List ClientCall → Type 0) (wire after : W) (reply : Reply) : Type 0 where
  pub asked : Result UpstreamReply LinkFault
  pub dials : List Dial
  pub came_to : CameTo (after ≡ wire) (request_bytes s.host s.target lines grant.forward) asked dials
  pub logged : LoggedBy (t.dial_faults after) (t.log wire) dials (t.log after)
  pub downs : RoseBy (downs (Some (outcome_of asked))) (t.dial_faults wire) (t.dial_faults after)
  pub failures : RoseBy (failures (Some (outcome_of asked))) (t.faults wire) (t.faults after)
  pub finished : Finished
  pub is_finished : IsFinished grant (outcome_of asked) finished
  pub bound : finished.bound ≡ grant.ticket.bound
  pub gains : Gained (settling grant.ticket finished.charged ∷ [])
  pub replied : reply ≡ finished_reply finished

-- ---- accounts that are lost

-- A granted request was forwarded with these lines of further fields, and in its settlement, at what its outcome is charged, the accounts
-- were lost. `Loses` says in which call.
pub record LosesForwarded {W : Type 0} (s : Service) (t : WireTelling W) (grant : Grant) (lines : List ℕ) (Loses : Call → Type 0) (wire after : W) : Type 0 where
  pub asked : Result UpstreamReply LinkFault
  pub dials : List Dial
  pub came_to : CameTo (after ≡ wire) (request_bytes s.host s.target lines grant.forward) asked dials
  pub logged : LoggedBy (t.dial_faults after) (t.log wire) dials (t.log after)
  pub lost : LosesFinished grant (outcome_of asked) Loses

-- An exchange in a call of which the accounts were lost, so that it has no reply. Nobody was dialled, or its grant was answered before.
abbrev pub LosesExchange : {B W : Type 0} → Service → WireTelling W → Ask → ℕ → ℕ → (B → List ClientCall → Type 0) → (B → ℕ → Call → Type 0) → W → W → Type 0
LosesExchange {B} s t ask moment made gains loses wire after =
    (LosesBegun s.rules ask.key ask.body.items moment made gains loses × (after ≡ wire))
    ⊎ ((client : ℕ) × (grant : Grant) × (before : B) × IsGranted s.rules ask.key ask.body.items client made grant
    × gains before (client_call client (reservation (window_of s.rules moment) grant.ticket.bound) (granted grant.ticket.window) ∷ [])
    × LosesForwarded s t grant ask.passed.items (loses before grant.ticket.client) wire after)

-- exchanges one after the other
unfoldable pub AreExchanges : Service → ℕ → List Exchange → Type 0
AreExchanges s made [] = ⊤
AreExchanges s made (x ∷ xs) = IsExchange s made ⊤ x × AreExchanges s (made + numbers_taken s.slots x.calls) xs
