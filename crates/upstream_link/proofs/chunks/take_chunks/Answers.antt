use Rattle.std.proofs.Common.{◌≡◌, ◌++◌, sym, ap, subst, arith, length, ◌∙◌, Ok, refl, [], false, append_assoc}
use Rattle.std.proofs.lemmas.List.{append-nil}
use Rattle.upstream_link.specs.Chunks.{ChunksTo, Ends}
use Rattle.upstream_link.specs.Received.{Brings, is_failure}
use Rattle.upstream_link.specs.Service.{ChunkSays, OneMore}
use Rattle.upstream_link.proofs.Lines.{chunks_grow, one_more, none_yet}
use Rattle.upstream_link.proofs.Receiving.{brings_none, brings_more, received_on}
use Rattle.upstream_link.proofs.chunks.take_chunks.Goals as goal

pub chunks-init : goal.chunks-init
chunks-init g c =
    let kept = c.args.kept.now in (
      omega (arith, ap length c.new-content.ensures.items),
      c.requires.dialled,
      omega arith,
      refl,
      ([], brings_none (g.W.Wire.coming c.args.wire.now, g.W.Wire.log c.args.wire.now), subst (λ l. ChunksTo l c.new-content.result.items kept) (sym (append-nil kept)) (subst (λ k. ChunksTo kept k kept) (sym c.new-content.ensures.items) (none_yet kept))),
    )

pub returns-in-Err-clause-exact : goal.returns-in-Err-clause-exact
returns-in-Err-clause-exact g c =
    let t = c.chunks.invariant.4 in
    let kept = c.args.kept.now in
    let second = c.in-Err.ensures.exact in
    received_on kept c.chunks.kept (g.W.Wire.coming c.args.wire.now, g.W.Wire.log c.args.wire.now) (g.W.Wire.coming c.chunks.wire, g.W.Wire.log c.chunks.wire) (g.W.Wire.coming c.take_chunk.new.wire, g.W.Wire.log c.take_chunk.new.wire) (is_failure c.in-Err.fault) (is_failure c.in-Err.fault) t.0 t.1 second refl
    (λ ended k. (c.chunks.content.items, c.chunks.kept ++ second.bytes, chunks_grow (kept ++ t.0) c.chunks.content.items c.chunks.kept second.bytes t.2, k))

pub returns-in-Ok-true-clause-exact : goal.returns-in-Ok-true-clause-exact
returns-in-Ok-true-clause-exact g c =
    let t = c.chunks.invariant.4 in
    let kept = c.args.kept.now in
    let second = c.in-Ok-true.ensures.exact in
    received_on kept c.chunks.kept (g.W.Wire.coming c.args.wire.now, g.W.Wire.log c.args.wire.now) (g.W.Wire.coming c.chunks.wire, g.W.Wire.log c.chunks.wire) (g.W.Wire.coming c.take_chunk.new.wire, g.W.Wire.log c.take_chunk.new.wire) false false t.0 t.1 second refl
    (λ ended k.
    let says : Ends (c.chunks.kept ++ second.bytes) × (c.take_chunk.new.content.items ≡ c.chunks.content.items) =
    subst (λ b. ChunkSays c.chunks.content.items c.take_chunk.new.content.items c.take_chunk.new.kept (Ok b) (c.chunks.kept ++ second.bytes) ended) c.in-Ok-true.field-0-test k in (
      c.chunks.kept ++ second.bytes,
      subst (λ l. ChunksTo ((kept ++ t.0) ++ second.bytes) l (c.chunks.kept ++ second.bytes)) (sym says.1) (chunks_grow (kept ++ t.0) c.chunks.content.items c.chunks.kept second.bytes t.2),
      says.0,
    ))

pub chunks-preserved : goal.chunks-preserved
chunks-preserved g c =
    let t = c.chunks.invariant.4 in
    let kept = c.args.kept.now in
    let second = c.in-Ok-false.ensures.exact in
    let here = c.chunks.kept ++ second.bytes in
    let says : OneMore c.chunks.content.items c.take_chunk.new.content.items c.take_chunk.new.kept here second.ended =
    subst (λ b. ChunkSays c.chunks.content.items c.take_chunk.new.content.items c.take_chunk.new.kept (Ok b) here second.ended) c.in-Ok-false.field-0-test second.says in (
      says.fits,
      c.in-Ok-false.ensures.up,
      c.in-Ok-false.ensures.still (λ e. cc e) ∙ c.chunks.invariant.2,
      c.in-Ok-false.ensures.dials ∙ c.chunks.invariant.3,
      (
        t.0 ++ second.bytes,
        brings_more (g.W.Wire.coming c.args.wire.now, g.W.Wire.log c.args.wire.now) (g.W.Wire.coming c.chunks.wire, g.W.Wire.log c.chunks.wire) (g.W.Wire.coming c.take_chunk.new.wire, g.W.Wire.log c.take_chunk.new.wire) t.0 second.bytes false false t.1 (subst (λ e. Brings (g.W.Wire.coming c.chunks.wire, g.W.Wire.log c.chunks.wire) second.bytes e false (g.W.Wire.coming c.take_chunk.new.wire, g.W.Wire.log c.take_chunk.new.wire)) says.goes_on second.brings),
        one_more (kept ++ (t.0 ++ second.bytes)) c.chunks.content.items c.take_chunk.new.content.items here c.take_chunk.new.kept says.chunk
            (subst (λ l. ChunksTo l c.chunks.content.items here) (append_assoc kept t.0 second.bytes) (chunks_grow (kept ++ t.0) c.chunks.content.items c.chunks.kept second.bytes t.2))
            says.is says.here_is says.grown says.fits,
      ),
    )
