-- What the private functions say, step by step.
use Rattle.std.specs.Prelude.{◌≡◌, ℕ, ◌≤◌, ◌<◌, Bool, true, false, List, [], ◌++◌, length, drop, Option, Some, None, Result, Ok, Err, IsTrue, ⊤}
use Rattle.httparse.specs.Grammar.{ChunkLine, print_chunk_line, chunk_size, ResponseHead, print_response, status_code}
use Rattle.upstream_link.specs.declared.fault.LinkFault.{LinkFault}
use Rattle.upstream_link.specs.declared.fault.LinkFault.TheVariants as fault
use Rattle.upstream_link.specs.declared.heads.Head.{Head}
use Rattle.upstream_link.specs.Chunks.{room, body_limit, Chunk, print_chunk, IsChunk, HasLine, HasBadLine, HasOpenLine, trailer_length, Ends, HasChunkFault}
use Rattle.upstream_link.specs.Framing.{framing_of}
use Rattle.upstream_link.specs.ReplyHeads.{HasHead, HasBadHead, HasOpenHead, ReplyHeadAt, ReplyHeadFails}

-- ---- pieces

-- the end was met in place of a piece
abbrev pub is_end : Result Bool LinkFault → Bool
is_end (Ok ended) = ended
is_end (Err f) = false

-- a piece was added to what is kept
abbrev pub PieceSays : List ℕ → List ℕ → List ℕ → Result Bool LinkFault → Type 0
PieceSays old new piece (Ok ended) = (new ≡ old ++ piece) × (IsTrue ended → piece ≡ []) × (ended ≡ false → 0 < length piece)
PieceSays old new piece (Err fault.Failed) = piece ≡ []
PieceSays old new piece (Err fault.Memory) = ⊤
PieceSays old new piece (Err f) = ⊥

-- so many bytes are kept, or they never come
abbrev pub DataSays : ℕ → List ℕ → Result (Unit {0}) LinkFault → List ℕ → Bool → Type 0
DataSays total new (Ok u) here ended = (total ≤ length here) × (new ≡ here) × (ended ≡ false)
DataSays total new (Err fault.Truncated) here ended = (length here < total) × IsTrue ended
DataSays total new (Err fault.Failed) here ended = (length here < total) × (ended ≡ false)
DataSays total new (Err fault.Memory) here ended = ⊤
DataSays total new (Err f) here ended = ⊥

-- ---- chunks

abbrev pub LineIs : List ℕ → ℕ → ℕ → Type 0
LineIs here len size = (l : ChunkLine) × HasLine here l × (len ≡ length (print_chunk_line l)) × (size ≡ chunk_size l)

abbrev pub LookSays : List ℕ → Result (Option (ℕ × ℕ)) LinkFault → Type 0
LookSays here (Ok (Some line)) = LineIs here line.0 line.1
LookSays here (Ok None) = HasOpenLine here
LookSays here (Err fault.BadChunk) = HasBadLine here
LookSays here (Err f) = ⊥

abbrev pub LineSays : List ℕ → Result (ℕ × ℕ) LinkFault → List ℕ → Bool → Type 0
LineSays new (Ok line) here ended = LineIs here line.0 line.1 × (new ≡ here) × (ended ≡ false)
LineSays new (Err fault.BadChunk) here ended = HasBadLine here
LineSays new (Err fault.Truncated) here ended = HasOpenLine here × IsTrue ended
LineSays new (Err fault.Failed) here ended = HasOpenLine here × (ended ≡ false)
LineSays new (Err fault.Memory) here ended = ⊤
LineSays new (Err f) here ended = ⊥

-- the trailer isn't whole in the bytes behind so many
abbrev pub LacksTrailer : ℕ → List ℕ → Type 0
LacksTrailer len here = trailer_length (room (drop len here)) ≡ None

abbrev pub TrailerSays : ℕ → Result (Unit {0}) LinkFault → List ℕ → Bool → Type 0
TrailerSays len (Ok u) here ended = (n : ℕ) × (trailer_length (room (drop len here)) ≡ Some n)
TrailerSays len (Err fault.Truncated) here ended = LacksTrailer len here × (length (drop len here) < 16384) × IsTrue ended
TrailerSays len (Err fault.Failed) here ended = LacksTrailer len here × (length (drop len here) < 16384) × (ended ≡ false)
TrailerSays len (Err fault.BadChunk) here ended = LacksTrailer len here × (16384 ≤ length (drop len here))
TrailerSays len (Err fault.Memory) here ended = ⊤
TrailerSays len (Err f) here ended = ⊥

-- one chunk more
pub record OneMore (old new left here : List ℕ) (ended : Bool) : Type 0 where
  pub chunk : Chunk
  pub is : IsChunk chunk
  pub here_is : here ≡ print_chunk chunk ++ left
  pub grown : new ≡ old ++ chunk.bytes
  pub fits : length new ≤ body_limit
  pub goes_on : ended ≡ false

-- one chunk more, or the last, or a fault
abbrev pub ChunkSays : List ℕ → List ℕ → List ℕ → Result Bool LinkFault → List ℕ → Bool → Type 0
ChunkSays old new left (Ok true) here ended = Ends here × (new ≡ old)
ChunkSays old new left (Ok false) here ended = OneMore old new left here ended
ChunkSays old new left (Err f) here ended = HasChunkFault old here ended f

-- ---- heads

pub record HeadIs (here : List ℕ) (head : Head) : Type 0 where
  pub h : ResponseHead
  pub has : HasHead here h
  pub len_is : head.len ≡ length (print_response h)
  pub code_is : head.code ≡ status_code h
  pub framing_is : head.framing ≡ framing_of h

abbrev pub HeadLookSays : List ℕ → Result (Option Head) LinkFault → Type 0
HeadLookSays here (Ok (Some head)) = HeadIs here head
HeadLookSays here (Ok None) = HasOpenHead here
HeadLookSays here (Err fault.BadReplyHead) = HasBadHead here
HeadLookSays here (Err f) = ⊥

abbrev pub HeadSays : List ℕ → Result Head LinkFault → List ℕ → Bool → Type 0
HeadSays new (Ok head) here ended = HeadIs here head × (new ≡ here) × (ended ≡ false)
HeadSays new (Err fault.BadReplyHead) here ended = HasBadHead here
HeadSays new (Err fault.Truncated) here ended = HasOpenHead here × IsTrue ended
HeadSays new (Err fault.Failed) here ended = HasOpenHead here × (ended ≡ false)
HeadSays new (Err fault.Memory) here ended = ⊤
HeadSays new (Err f) here ended = ⊥

-- what is kept begins with the head of the reply
pub record ReplyHeadIs (new : List ℕ) (head : Head) (bytes : List ℕ) (ended : Bool) : Type 0 where
  pub h : ResponseHead
  pub at : ReplyHeadAt bytes new h
  pub len_is : head.len ≡ length (print_response h)
  pub code_is : head.code ≡ status_code h
  pub framing_is : head.framing ≡ framing_of h
  pub goes_on : ended ≡ false

abbrev pub ReplyHeadSays : List ℕ → Result Head LinkFault → List ℕ → Bool → Type 0
ReplyHeadSays new (Ok head) bytes ended = ReplyHeadIs new head bytes ended
ReplyHeadSays new (Err f) bytes ended = ReplyHeadFails f bytes ended

-- ---- both, at each place

-- what stands at the front of these bytes was looked at, for a head and for a size line
abbrev pub IsSeen : List ℕ → Type 0
IsSeen here =
    ((r : Result (Option Head) LinkFault) × HeadLookSays here r) × ((r : Result (Option (ℕ × ℕ)) LinkFault) × LookSays here r)

-- and so behind each of them
abbrev pub AreSeen : List ℕ → Type 0
AreSeen bytes = (at : ℕ) → at ≤ length bytes → IsSeen (drop at bytes)
