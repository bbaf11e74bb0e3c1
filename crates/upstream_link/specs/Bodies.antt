-- The body behind the head of a reply, or its first fault (RFC 9112, section 6.3).
use Rattle.std.specs.Prelude.{◌≡◌, ℕ, ◌≤◌, ◌<◌, Bool, false, List, [], length, take, Result, Ok, Err, IsTrue, ⊤, Vec}
use Rattle.std.specs.declared.alloc.Global.{Global}
use Rattle.upstream_link.specs.declared.fault.LinkFault.{LinkFault}
use Rattle.upstream_link.specs.declared.fault.LinkFault.TheVariants as fault
use Rattle.upstream_link.specs.declared.framing.Framing.{Framing}
use Rattle.upstream_link.specs.declared.framing.Framing.TheVariants as framing
use Rattle.upstream_link.specs.Chunks.{body_limit, ChunkedIs}

-- a body of so many bytes
abbrev pub SizedIs : ℕ → Result (List ℕ) LinkFault → List ℕ → Bool → Type 0
SizedIs size (Ok body) bytes ended = (size ≤ length bytes) × (body ≡ take size bytes)
SizedIs size (Err fault.Truncated) bytes ended = (length bytes < size) × IsTrue ended
SizedIs size (Err fault.Failed) bytes ended = (length bytes < size) × (ended ≡ false)
SizedIs size (Err fault.Memory) bytes ended = ⊤
SizedIs size (Err f) bytes ended = ⊥

-- a body that goes on to the end of the wire
abbrev pub RestIs : Result (List ℕ) LinkFault → List ℕ → Bool → Type 0
RestIs (Ok body) bytes ended = (body ≡ bytes) × (length bytes ≤ body_limit) × IsTrue ended
RestIs (Err fault.TooLarge) bytes ended = body_limit < length bytes
RestIs (Err fault.Failed) bytes ended = (length bytes ≤ body_limit) × (ended ≡ false)
RestIs (Err fault.Memory) bytes ended = ⊤
RestIs (Err f) bytes ended = ⊥

-- the body, by the framing of its reply
abbrev pub BodyIs : Framing → Result (List ℕ) LinkFault → List ℕ → Bool → Type 0
BodyIs framing.NoBody r bytes ended = r ≡ Ok []
BodyIs framing.Chunked r bytes ended = ChunkedIs r bytes ended
BodyIs (framing.Length size) r bytes ended = SizedIs size r bytes ended
BodyIs framing.UntilEnd r bytes ended = RestIs r bytes ended

-- ---- in the service of the code

abbrev pub items_of : Result (Vec ℕ Global) LinkFault → Result (List ℕ) LinkFault
items_of (Ok body) = Ok body.items
items_of (Err f) = Err f

-- all that comes is kept, up to the end
abbrev pub AllSays : List ℕ → Result (Unit {0}) LinkFault → List ℕ → Bool → Type 0
AllSays new (Ok u) bytes ended = (new ≡ bytes) × (length bytes ≤ body_limit) × IsTrue ended
AllSays new (Err fault.TooLarge) bytes ended = body_limit < length bytes
AllSays new (Err fault.Failed) bytes ended = (length bytes ≤ body_limit) × (ended ≡ false)
AllSays new (Err fault.Memory) bytes ended = ⊤
AllSays new (Err f) bytes ended = ⊥
