-- The head of a reply behind those that are passed over, or the first fault (RFC 9110, section 15.2).
use Rattle.std.specs.Prelude.{◌≡◌, ℕ, ◌≤◌, ◌<◌, ◌⊎◌, Bool, false, List, [], ◌∷◌, length, drop, IsTrue, ⊤}
use Rattle.httparse.specs.Grammar.{ResponseHead, print_response, ReadsResponse, HasNoResponse, NeverHasResponse, MayBecomeResponse, status_code}
use Rattle.httparse.specs.Spans.{ResponseExceeds, ResponseOverflows}
use Rattle.http.specs.StatusCode.{IsInClass}
use Rattle.upstream_link.specs.declared.fault.LinkFault.{LinkFault}
use Rattle.upstream_link.specs.declared.fault.LinkFault.TheVariants as fault
use Rattle.upstream_link.specs.Chunks.{room}

-- a head of at most 16,384 bytes and 64 fields stands here
abbrev pub HasHead : List ℕ → ResponseHead → Type 0
HasHead here h = (rest : List ℕ) × ReadsResponse (room here) h rest × (length h.fields ≤ 64)

abbrev pub after_head : ResponseHead → List ℕ → List ℕ
after_head h here = drop (length (print_response h)) here

-- the head here has too many fields
abbrev pub HasTooManyFields : List ℕ → Type 0
HasTooManyFields here = ResponseExceeds 64 (room here) × ResponseOverflows 64 (room here)

-- no head can be read here, or only one that is too large
abbrev pub HasBadHead : List ℕ → Type 0
HasBadHead here = NeverHasResponse (room here) ⊎ (HasTooManyFields here ⊎ (HasNoResponse (room here) × (16384 ≤ length here)))

-- a head may stand here with more bytes
abbrev pub HasOpenHead : List ℕ → Type 0
HasOpenHead here = HasNoResponse (room here) × MayBecomeResponse (room here) × (length here < 16384)

-- the head of an interim reply, which is passed over
abbrev pub IsInterim : ResponseHead → Type 0
IsInterim h = IsInClass 100 (status_code h)

-- the bytes are these heads, each of an interim reply, and then `here`
unfoldable pub HeadsTo : List ℕ → List ResponseHead → List ℕ → Type 0
HeadsTo bytes [] here = bytes ≡ here
HeadsTo bytes (h ∷ hs) here = HasHead bytes h × IsInterim h × HeadsTo (after_head h bytes) hs here

-- the head of the reply stands behind at most eight others
abbrev pub ReplyHeadAt : List ℕ → List ℕ → ResponseHead → Type 0
ReplyHeadAt bytes here h = (hs : List ResponseHead) × HeadsTo bytes hs here × (length hs ≤ 8) × HasHead here h × (IsInterim h → ⊥)

-- a head stands here that is one too many
abbrev pub HasNinth : ℕ → List ℕ → Type 0
HasNinth passed here = (h : ResponseHead) × HasHead here h × IsInterim h × (passed ≡ 8)

-- what goes wrong behind so many heads that were passed over
abbrev pub HasHeadFault : ℕ → List ℕ → Bool → LinkFault → Type 0
HasHeadFault passed here ended fault.Failed = HasOpenHead here × (ended ≡ false)
HasHeadFault passed here ended fault.BadReplyHead = HasBadHead here ⊎ HasNinth passed here
HasHeadFault passed here ended fault.Truncated = HasOpenHead here × IsTrue ended
HasHeadFault passed here ended fault.Memory = ⊤
HasHeadFault passed here ended f = ⊥

-- the first fault before the head of the reply
abbrev pub ReplyHeadFails : LinkFault → List ℕ → Bool → Type 0
ReplyHeadFails f bytes ended =
    (hs : List ResponseHead) × (here : List ℕ) × HeadsTo bytes hs here × (length hs ≤ 8) × HasHeadFault (length hs) here ended f
