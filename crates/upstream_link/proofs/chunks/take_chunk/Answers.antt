use Rattle.std.proofs.Common.{◌≡◌, ◌++◌, ◌+◌, ◌-◌, sym, ap, subst, arith, ◌∙◌, refl, false, drop, take}
use Rattle.upstream_link.specs.Chunks.{line_end}
use Rattle.upstream_link.specs.Received.{is_failure}
use Rattle.upstream_link.specs.Service.{LineIs}
use Rattle.upstream_link.proofs.Lines.{line_fault, line_is_stays, ends, trailer_fault, data_fault, no_end, chunk_here}
use Rattle.upstream_link.proofs.Receiving.{received_says, received_then}
use Rattle.upstream_link.proofs.chunks.take_chunk.Goals as goal

pub returns-in-Err-clause-exact : goal.returns-in-Err-clause-exact
returns-in-Err-clause-exact g c =
    received_says c.args.kept.now (g.W.Wire.coming c.args.wire.now, g.W.Wire.log c.args.wire.now) (g.W.Wire.coming c.take_line.new.wire, g.W.Wire.log c.take_line.new.wire) (is_failure c.in-Err.fault) (is_failure c.in-Err.fault) c.in-Err.ensures.exact refl
    (λ k. line_fault c.args.content.now.items (c.args.kept.now ++ c.in-Err.ensures.exact.bytes) c.take_line.new.kept c.in-Err.ensures.exact.ended c.in-Err.fault k)

pub returns-in-Ok-take_trailer-clause-exact : goal.returns-in-Ok-take_trailer-clause-exact
returns-in-Ok-take_trailer-clause-exact g c =
    let first = c.in-Ok.ensures.exact in
    let now = c.take_line.new.kept in
    let is = subst (λ l. LineIs l c.in-Ok.line.0 c.in-Ok.line.1) (sym first.says.1) first.says.0 in
    received_then c.args.kept.now now (g.W.Wire.coming c.args.wire.now, g.W.Wire.log c.args.wire.now) (g.W.Wire.coming c.take_line.new.wire, g.W.Wire.log c.take_line.new.wire) (g.W.Wire.coming c.take_trailer.new.wire, g.W.Wire.log c.take_trailer.new.wire) false false first first.says.2 first.says.1 c.in-Ok-take_trailer.ensures.exact refl
    (λ more ended k. (ends (now ++ more) c.in-Ok.line.0 c.in-Ok.line.1 k.0 (line_is_stays now more _ _ is) c.if-size-eq0.true k.1, refl))

pub returns-in-Err-take_trailer-clause-exact : goal.returns-in-Err-take_trailer-clause-exact
returns-in-Err-take_trailer-clause-exact g c =
    let first = c.in-Ok.ensures.exact in
    let now = c.take_line.new.kept in
    let is = subst (λ l. LineIs l c.in-Ok.line.0 c.in-Ok.line.1) (sym first.says.1) first.says.0 in
    received_then c.args.kept.now now (g.W.Wire.coming c.args.wire.now, g.W.Wire.log c.args.wire.now) (g.W.Wire.coming c.take_line.new.wire, g.W.Wire.log c.take_line.new.wire) (g.W.Wire.coming c.take_trailer.new.wire, g.W.Wire.log c.take_trailer.new.wire) (is_failure c.in-Err-take_trailer.fault) (is_failure c.in-Err-take_trailer.fault) first first.says.2 first.says.1 c.in-Err-take_trailer.ensures.exact refl
    (λ more ended k. trailer_fault c.args.content.now.items (now ++ more) ended c.in-Ok.line.0 c.in-Ok.line.1 c.in-Err-take_trailer.fault (line_is_stays now more _ _ is) c.if-size-eq0.true c.requires.fits k)

pub returns-in-Err-take_data-clause-exact : goal.returns-in-Err-take_data-clause-exact
returns-in-Err-take_data-clause-exact g c =
    let first = c.in-Ok.ensures.exact in
    let now = c.take_line.new.kept in
    let is = subst (λ l. LineIs l c.in-Ok.line.0 c.in-Ok.line.1) (sym first.says.1) first.says.0 in
    received_then c.args.kept.now now (g.W.Wire.coming c.args.wire.now, g.W.Wire.log c.args.wire.now) (g.W.Wire.coming c.take_line.new.wire, g.W.Wire.log c.take_line.new.wire) (g.W.Wire.coming c.take_data.new.wire, g.W.Wire.log c.take_data.new.wire) (is_failure c.in-Err-take_data.fault) (is_failure c.in-Err-take_data.fault) first first.says.2 first.says.1 c.in-Err-take_data.ensures.exact refl
    (λ more ended k. data_fault c.args.content.now.items (now ++ more) c.take_data.new.kept ended c.in-Ok.line.0 c.in-Ok.line.1 c.in-Err-take_data.fault (line_is_stays now more _ _ is) c.if-size-eq0.false
    (omega (arith, c.if-size-len.false, c.len.ensures, c.requires.fits)) k)

pub returns-else-ends_at-clause-exact : goal.returns-else-ends_at-clause-exact
returns-else-ends_at-clause-exact g c =
    let first = c.in-Ok.ensures.exact in
    let now = c.take_line.new.kept in
    let is = subst (λ l. LineIs l c.in-Ok.line.0 c.in-Ok.line.1) (sym first.says.1) first.says.0 in
    received_then c.args.kept.now now (g.W.Wire.coming c.args.wire.now, g.W.Wire.log c.args.wire.now) (g.W.Wire.coming c.take_line.new.wire, g.W.Wire.log c.take_line.new.wire) (g.W.Wire.coming c.take_data.new.wire, g.W.Wire.log c.take_data.new.wire) false false first first.says.2 first.says.1 c.in-Ok-take_data.ensures.exact refl
    (λ more ended k. no_end c.args.content.now.items (now ++ more) ended c.in-Ok.line.0 c.in-Ok.line.1 (line_is_stays now more _ _ is) c.if-size-eq0.false
    (omega (arith, c.if-size-len.false, c.len.ensures, c.requires.fits)) k.0
    (λ e. absurd (cc (c.if-ends_at.false, c.ends_at.ensures.1 (subst (λ l. take 2 (drop (c.in-Ok.line.0 + c.in-Ok.line.1) l) ≡ line_end) (sym (c.bytes.ensures ∙ k.1)) e)))))

pub returns-in-Err-add_part-clause-exact : goal.returns-in-Err-add_part-clause-exact
returns-in-Err-add_part-clause-exact g c =
    let first = c.in-Ok.ensures.exact in
    let now = c.take_line.new.kept in
    let is = subst (λ l. LineIs l c.in-Ok.line.0 c.in-Ok.line.1) (sym first.says.1) first.says.0 in
    received_then c.args.kept.now now (g.W.Wire.coming c.args.wire.now, g.W.Wire.log c.args.wire.now) (g.W.Wire.coming c.take_line.new.wire, g.W.Wire.log c.take_line.new.wire) (g.W.Wire.coming c.take_data.new.wire, g.W.Wire.log c.take_data.new.wire) false false first first.says.2 first.says.1 c.in-Ok-take_data.ensures.exact refl
    (λ more ended k. tt)

pub returns-clause-exact : goal.returns-clause-exact
returns-clause-exact g c =
    let first = c.in-Ok.ensures.exact in
    let now = c.take_line.new.kept in
    let is = subst (λ l. LineIs l c.in-Ok.line.0 c.in-Ok.line.1) (sym first.says.1) first.says.0 in
    received_then c.args.kept.now now (g.W.Wire.coming c.args.wire.now, g.W.Wire.log c.args.wire.now) (g.W.Wire.coming c.take_line.new.wire, g.W.Wire.log c.take_line.new.wire) (g.W.Wire.coming c.take_data.new.wire, g.W.Wire.log c.take_data.new.wire) false false first first.says.2 first.says.1 c.in-Ok-take_data.ensures.exact refl
    (λ more ended k. chunk_here c.args.content.now.items c.add_part.new.content.items (now ++ more) c.pass.new.self c.in-Ok.line.0 c.in-Ok.line.1
    (line_is_stays now more _ _ is) c.if-size-eq0.false
    (omega (arith, c.if-size-len.false, c.len.ensures, c.requires.fits)) k.0
    (subst (λ l. take 2 (drop (c.in-Ok.line.0 + c.in-Ok.line.1) l) ≡ line_end) (c.bytes.ensures ∙ k.1) (c.ends_at.ensures.0 c.if-ends_at.true))
    (c.in-Ok-add_part.ensures ∙ ap (λ l. c.args.content.now.items ++ take (c.in-Ok.line.0 + c.in-Ok.line.1 - c.in-Ok.line.0) (drop c.in-Ok.line.0 l)) (c.bytes-2.ensures ∙ k.1))
    (c.pass.ensures ∙ ap (drop (c.in-Ok.line.0 + c.in-Ok.line.1 + 2)) k.1) ended k.2)
