-- What a request to the upstream came to, by its dials.
use Rattle.std.specs.Prelude.{◌≡◌, ℕ, ◌<◌, ◌⊎◌, true, false, List, [], ◌∷◌, ◌++◌, length, Option, Result, Ok, Err}
use Rattle.outside.specs.Dials.{Dial, missed_dial, LastBecomes, sends, fails}
use Rattle.upstream_link.specs.declared.fault.LinkFault.{LinkFault}
use Rattle.upstream_link.specs.declared.fault.LinkFault.TheVariants as fault
use Rattle.upstream_link.specs.declared.reply.UpstreamReply.{UpstreamReply}
use Rattle.upstream_link.specs.declared.request.Request.{Request}
use Rattle.upstream_link.specs.Received.{is_failed}
use Rattle.upstream_link.specs.Replies.{ReplyOf}

-- these bytes are a front of those, and not all of them
abbrev pub IsFrontOf : List ℕ → List ℕ → Type 0
IsFrontOf front bytes = (rest : List ℕ) × (bytes ≡ front ++ rest) × (0 < length rest)

-- nobody answered the dial
pub record WasDown (r : Result UpstreamReply LinkFault) (dial : Dial) : Type 0 where
  pub down : r ≡ Err fault.Down
  pub missed : dial ≡ missed_dial

-- only a front of the request was sent, since a transfer failed
pub record WasCutOff (request : List ℕ) (r : Result UpstreamReply LinkFault) (dial : Dial) : Type 0 where
  pub answered : dial.answered ≡ true
  pub failed : r ≡ Err fault.Failed
  pub sent : IsFrontOf dial.sent request
  pub taken : dial.taken ≡ []
  pub goes_on : dial.ended ≡ false
  pub marked : dial.failed ≡ true

-- the request was sent, and the bytes that were taken begin with this reply, or have this fault
pub record WasAnswered (request : List ℕ) (r : Result UpstreamReply LinkFault) (dial : Dial) : Type 0 where
  pub answered : dial.answered ≡ true
  pub sent : dial.sent ≡ request
  pub taken : ReplyOf r dial.taken dial.ended
  pub marked : dial.failed ≡ is_failed r

-- What a request came to: it was dialled just once, unless there was no memory before. `untouched` says that the wire is
-- as it was.
abbrev pub CameTo : Type 0 → List ℕ → Result UpstreamReply LinkFault → List Dial → Type 0
CameTo untouched request r [] = (r ≡ Err fault.Memory) × untouched
CameTo untouched request r (dial ∷ []) = WasDown r dial ⊎ (WasCutOff request r dial ⊎ WasAnswered request r dial)
CameTo untouched request r (dial ∷ other ∷ dials) = ⊥

-- ---- in the service of the code

-- the bytes of a request that is ready to be sent
abbrev pub bytes_of : Request → List ℕ
bytes_of request = request.first.items ++ request.rest.now

-- all bytes were sent on the latest dial, or a front of them, and then a transfer failed
abbrev pub SendSays : List ℕ → Result (Unit {0}) LinkFault → Option (List Dial) → Option (List Dial) → Type 0
SendSays bytes (Ok u) before after = LastBecomes (sends bytes) before after
SendSays bytes (Err fault.Failed) before after = (front : List ℕ) × IsFrontOf front bytes × LastBecomes (λ d. fails (sends front d)) before after
SendSays bytes (Err f) before after = ⊥

-- what became of the latest dial, had nothing gone over it before
pub record Exchanges (request : List ℕ) (r : Result UpstreamReply LinkFault) (fresh : Dial) (before after : Option (List Dial)) : Type 0 where
  pub change : Dial → Dial
  pub becomes : LastBecomes change before after
  pub came_to : WasCutOff request r (change fresh) ⊎ WasAnswered request r (change fresh)
