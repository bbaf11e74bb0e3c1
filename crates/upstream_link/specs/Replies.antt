-- A reply of the upstream at the front of bytes, or its first fault.
use Rattle.std.specs.Prelude.{◌≡◌, ◌≢◌, ℕ, ◌⊎◌, Bool, false, List, Result, Ok, Err, ⊤}
use Rattle.httparse.specs.Grammar.{ResponseHead, status_code}
use Rattle.upstream_link.specs.declared.fault.LinkFault.{LinkFault}
use Rattle.upstream_link.specs.declared.fault.LinkFault.TheVariants as fault
use Rattle.upstream_link.specs.declared.framing.Framing.{Framing}
use Rattle.upstream_link.specs.declared.reply.UpstreamReply.{UpstreamReply}
use Rattle.upstream_link.specs.Framing.{framing_of}
use Rattle.upstream_link.specs.Bodies.{BodyIs}
use Rattle.upstream_link.specs.ReplyHeads.{ReplyHeadAt, ReplyHeadFails, HeadsTo, HasOpenHead, HasTooManyFields, after_head}

-- the body behind the head, by its framing
abbrev pub HasBody : ResponseHead → Result (List ℕ) LinkFault → List ℕ → Bool → Type 0
HasBody h r after ended = (f : Framing) × (framing_of h ≡ Ok f) × BodyIs f r after ended

-- the head says that the body can't be read, or the body has a fault
abbrev pub BodyFails : ResponseHead → LinkFault → List ℕ → Bool → Type 0
BodyFails h f after ended = (framing_of h ≡ Err f) ⊎ HasBody h (Err f) after ended

-- a whole reply of this status and with this body stands at the front of the bytes
abbrev pub BeginsWithReply : ℕ → List ℕ → List ℕ → Bool → Type 0
BeginsWithReply status body bytes ended =
    (here : List ℕ) × (h : ResponseHead) × ReplyHeadAt bytes here h × (status ≡ status_code h) × HasBody h (Ok body) (after_head h here) ended

-- the reply at the front of the bytes, or its first fault
abbrev pub ReplyOf : Result UpstreamReply LinkFault → List ℕ → Bool → Type 0
ReplyOf (Ok reply) bytes ended = BeginsWithReply reply.status reply.body.items bytes ended
ReplyOf (Err f) bytes ended =
    ReplyHeadFails f bytes ended ⊎ ((here : List ℕ) × (h : ResponseHead) × ReplyHeadAt bytes here h × BodyFails h f (after_head h here) ended)

-- ---- one answer

-- a whole reply stands at the front
abbrev pub HoldsReply : List ℕ → Bool → Type 0
HoldsReply bytes ended = (status : ℕ) × (body : List ℕ) × BeginsWithReply status body bytes ended

-- it is neither that a transfer failed nor want of memory
abbrev pub IsOfBytes : LinkFault → Type 0
IsOfBytes f = (f ≢ fault.Failed) × (f ≢ fault.Memory)

-- the bytes have a fault that is one of theirs
abbrev pub HoldsFault : List ℕ → Bool → Type 0
HoldsFault bytes ended = (f : LinkFault) × ReplyOf (Err f) bytes ended × IsOfBytes f

-- Whether there is a reply takes more bytes, or the end of them: just where a transfer that fails is the first fault.
abbrev pub IsUndecided : List ℕ → Type 0
IsUndecided bytes = ReplyOf (Err fault.Failed) bytes false

-- it is told before a whole head stands there
abbrev pub IsBeforeHead : LinkFault → Type 0
IsBeforeHead fault.Failed = ⊤
IsBeforeHead fault.BadReplyHead = ⊤
IsBeforeHead fault.Truncated = ⊤
IsBeforeHead f = ⊥

-- what the grammar of heads leaves open: a head that isn't whole and has too many fields already
abbrev pub IsLeftOpen : List ℕ → Type 0
IsLeftOpen bytes = (hs : List ResponseHead) × (here : List ℕ) × HeadsTo bytes hs here × HasOpenHead here × HasTooManyFields here

-- Two faults are the same, or one is want of memory, or both are told before a whole head where it is left open which.
abbrev pub AreOne : List ℕ → LinkFault → LinkFault → Type 0
AreOne bytes f g = (f ≡ g) ⊎ ((f ≡ fault.Memory) ⊎ ((g ≡ fault.Memory) ⊎ (IsBeforeHead f × IsBeforeHead g × IsLeftOpen bytes)))
