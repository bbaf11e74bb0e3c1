use Rattle.std.proofs.Common.{◌≡◌, ◌++◌, inr, subst, sym, ap, ◌∙◌, length, drop, arith}
use Rattle.std.proofs.lemmas.List.{length-append, length-take}
use Rattle.httparse.specs.Spans.{IsChunkLineAt}
use Rattle.upstream_link.specs.Chunks.{room}
use Rattle.httparse.specs.Grammar.{HasNoChunkLine, ChunkLine, print_chunk_line}
use Rattle.upstream_link.proofs.Lines.{partial_at, complete_at}
use Rattle.upstream_link.proofs.chunks.look_at.Goals as goal

pub returns-else-bytes-lt-ROOM-clause-exact : goal.returns-else-bytes-lt-ROOM-clause-exact
returns-else-bytes-lt-ROOM-clause-exact c =
    inr (subst HasNoChunkLine c.room_of.ensures (partial_at (HasNoChunkLine c.room_of.result.now) c.in-Ok-Partial.field-0 c.in-Ok-Partial.field-0-is c.in-Ok-Partial.ensures.partial), c.if-bytes-lt-ROOM.false)

pub returns-in-Ok-Complete-clause-within : goal.returns-in-Ok-Complete-clause-within
returns-in-Ok-Complete-clause-within c =
    let at = complete_at (λ r. (l : ChunkLine) × IsChunkLineAt c.room_of.result.now r.0 r.1 l) c.in-Ok-Complete.field-0 c.in-Ok-Complete.line c.in-Ok-Complete.field-0-is c.in-Ok-Complete.ensures.complete in
    let e : length (room c.args.bytes.now) ≡ length (print_chunk_line at.0 ++ drop c.in-Ok-Complete.line.0 c.room_of.result.now) = ap length (sym c.room_of.ensures ∙ at.1.reads.1) in
    omega (arith, e, at.1.len_is, length-append (print_chunk_line at.0) (drop c.in-Ok-Complete.line.0 c.room_of.result.now), length-take 16384 c.args.bytes.now)

pub returns-in-Ok-Complete-clause-short : goal.returns-in-Ok-Complete-clause-short
returns-in-Ok-Complete-clause-short c =
    let at = complete_at (λ r. (l : ChunkLine) × IsChunkLineAt c.room_of.result.now r.0 r.1 l) c.in-Ok-Complete.field-0 c.in-Ok-Complete.line c.in-Ok-Complete.field-0-is c.in-Ok-Complete.ensures.complete in
    let e : length (room c.args.bytes.now) ≡ length (print_chunk_line at.0 ++ drop c.in-Ok-Complete.line.0 c.room_of.result.now) = ap length (sym c.room_of.ensures ∙ at.1.reads.1) in
    omega (arith, e, at.1.len_is, length-append (print_chunk_line at.0) (drop c.in-Ok-Complete.line.0 c.room_of.result.now), length-take 16384 c.args.bytes.now)
