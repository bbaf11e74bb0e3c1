-- A chunked body at the front of bytes, or its first fault (RFC 9112, section 7.1).
use Rattle.std.specs.Prelude.{◌≡◌, ◌≢◌, ℕ, ◌+◌, ◌≤◌, ◌<◌, ◌⊎◌, ◌==◌, ◌&&◌, if◌then◌else◌, nat_lt, Bool, false, List, [], ◌∷◌, ◌++◌, length, take, drop, Option, Some, None, Result, Ok, Err, IsTrue, ⊤}
use Rattle.std.specs.List.{AllByRecursion}
use Rattle.std.specs.Option.{option_map}
use Rattle.httparse.specs.Grammar.{ChunkLine, print_chunk_line, chunk_size, IsChunkLine, ReadsChunkLine, HasNoChunkLine, NeverHasChunkLine, MayBecomeChunkLine}
use Rattle.upstream_link.specs.declared.fault.LinkFault.{LinkFault}
use Rattle.upstream_link.specs.declared.fault.LinkFault.TheVariants as fault

-- the bytes in which a head, a size line or a trailer must stand
abbrev pub room : List ℕ → List ℕ
room bytes = take 16384 bytes

-- the greatest length of a body
abbrev pub body_limit : ℕ
body_limit = 4194304

-- the end of a line: CR LF
abbrev pub line_end : List ℕ
line_end = 13 ∷ 10 ∷ []

-- a size line and its data
pub record Chunk : Type 0 where
  pub line : ChunkLine
  pub bytes : List ℕ

abbrev pub print_chunk : Chunk → List ℕ
print_chunk c = print_chunk_line c.line ++ (c.bytes ++ line_end)

-- a chunk with some data, as much as its size line says
pub record IsChunk (c : Chunk) : Type 0 where
  pub line : IsChunkLine c.line
  pub short : length (print_chunk_line c.line) ≤ 16384
  pub some : 0 < chunk_size c.line
  pub whole : length c.bytes ≡ chunk_size c.line

unfoldable pub print_chunks : List Chunk → List ℕ
print_chunks [] = []
print_chunks (c ∷ cs) = print_chunk c ++ print_chunks cs

-- their data, one after the other
unfoldable pub data_of : List Chunk → List ℕ
data_of [] = []
data_of (c ∷ cs) = c.bytes ++ data_of cs

-- the bytes are whole chunks with this content, and then `here`
pub record ChunksTo (bytes content here : List ℕ) : Type 0 where
  pub chunks : List Chunk
  pub each : AllByRecursion IsChunk chunks
  pub bytes_are : bytes ≡ print_chunks chunks ++ here
  pub content_is : content ≡ data_of chunks
  pub fits : length content ≤ body_limit

-- a size line stands here
abbrev pub HasLine : List ℕ → ChunkLine → Type 0
HasLine here l = (rest : List ℕ) × ReadsChunkLine (room here) l rest

abbrev pub after_line : ChunkLine → List ℕ → List ℕ
after_line l here = drop (length (print_chunk_line l)) here

-- the place in a line of a trailer: its start (0), behind a CR at its start (1), or another (2)
abbrev pub line_state : ℕ → ℕ → ℕ
line_state state byte = if byte == 10 then 0 else (if (byte == 13) && (state == 0) then 1 else 2)

-- the length of what is left of a trailer, up to the end of its first empty line
unfoldable pub trailer_from : ℕ → List ℕ → Option ℕ
trailer_from state [] = None
trailer_from state (byte ∷ bytes) =
    if (byte == 10) && nat_lt state 2 then Some 1 else option_map (λ n. n + 1) (trailer_from (line_state state byte) bytes)

-- the length of a trailer at the front of bytes
abbrev pub trailer_length : List ℕ → Option ℕ
trailer_length bytes = trailer_from 0 bytes

-- no size line can be read here
abbrev pub HasBadLine : List ℕ → Type 0
HasBadLine here = NeverHasChunkLine (room here) ⊎ (HasNoChunkLine (room here) × (16384 ≤ length here))

-- a size line may stand here with more bytes
abbrev pub HasOpenLine : List ℕ → Type 0
HasOpenLine here = HasNoChunkLine (room here) × MayBecomeChunkLine (room here) × (length here < 16384)

-- the data and the line end behind it aren't all here
abbrev pub LacksData : List ℕ → ChunkLine → Type 0
LacksData here l = (0 < chunk_size l) × (length (after_line l here) < chunk_size l + 2)

-- no line end follows the data
abbrev pub LacksEnd : List ℕ → ChunkLine → Type 0
LacksEnd here l =
    (0 < chunk_size l) × (chunk_size l + 2 ≤ length (after_line l here)) × (take 2 (drop (chunk_size l) (after_line l here)) ≢ line_end)

-- the trailer isn't whole
abbrev pub HasOpenTrailer : List ℕ → ChunkLine → Type 0
HasOpenTrailer here l = (chunk_size l ≡ 0) × (trailer_length (room (after_line l here)) ≡ None) × (length (after_line l here) < 16384)

-- the trailer is too long
abbrev pub HasLongTrailer : List ℕ → ChunkLine → Type 0
HasLongTrailer here l = (chunk_size l ≡ 0) × (trailer_length (room (after_line l here)) ≡ None) × (16384 ≤ length (after_line l here))

-- more bytes are needed here, and the sizes so far are within the limit
abbrev pub IsCut : List ℕ → List ℕ → Type 0
IsCut content here =
    HasOpenLine here ⊎ ((l : ChunkLine) × HasLine here l × (length content + chunk_size l ≤ body_limit) × (LacksData here l ⊎ HasOpenTrailer here l))

-- the last chunk and its trailer stand here
abbrev pub Ends : List ℕ → Type 0
Ends here = (l : ChunkLine) × HasLine here l × (chunk_size l ≡ 0) × ((n : ℕ) × (trailer_length (room (after_line l here)) ≡ Some n))

-- what goes wrong behind whole chunks with this content
abbrev pub HasChunkFault : List ℕ → List ℕ → Bool → LinkFault → Type 0
HasChunkFault content here ended fault.Failed = IsCut content here × (ended ≡ false)
HasChunkFault content here ended fault.TooLarge = (l : ChunkLine) × HasLine here l × (body_limit < length content + chunk_size l)
HasChunkFault content here ended fault.Truncated = IsCut content here × IsTrue ended
HasChunkFault content here ended fault.BadChunk =
    HasBadLine here ⊎ ((l : ChunkLine) × HasLine here l × (length content + chunk_size l ≤ body_limit) × (LacksEnd here l ⊎ HasLongTrailer here l))
HasChunkFault content here ended fault.Memory = ⊤
HasChunkFault content here ended f = ⊥

-- the content of a chunked body at the front of the bytes, or its first fault
abbrev pub ChunkedIs : Result (List ℕ) LinkFault → List ℕ → Bool → Type 0
ChunkedIs (Ok content) bytes ended = (here : List ℕ) × ChunksTo bytes content here × Ends here
ChunkedIs (Err f) bytes ended = (content here : List ℕ) × ChunksTo bytes content here × HasChunkFault content here ended f
