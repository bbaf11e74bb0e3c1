use Rattle.std.proofs.Common.{◌≡◌, ◌++◌, ◌∙◌, sym, ap, subst, arith, Err, refl, [], true, false}
use Rattle.std.proofs.lemmas.List.{append-nil}
use Rattle.upstream_link.specs.Received.{Told, Brings, is_failure}
use Rattle.upstream_link.specs.Chunks.{HasOpenLine}
use Rattle.upstream_link.specs.Service.{LookSays, LineSays}
use Rattle.upstream_link.proofs.Lines.{piece_fails, bad_line, line_no_failure, seen_line}
use Rattle.upstream_link.proofs.Receiving.{brings_none, piece_behind, received_open, received_ended}
use Rattle.upstream_link.proofs.chunks.take_line.Goals as goal

pub pieces-init : goal.pieces-init
pieces-init g c =
    (c.requires.dialled, omega arith, refl, ([], brings_none (g.W.Wire.coming c.args.wire.now, g.W.Wire.log c.args.wire.now), sym (append-nil c.args.kept.now)))

pub pieces-preserved : goal.pieces-preserved
pieces-preserved g c =
    let e = c.in-Ok-false.ensures.exact in
    let so_far = c.pieces.invariant.3 in
    let a : Told = (g.W.Wire.coming c.args.wire.now, g.W.Wire.log c.args.wire.now) in
    let b : Told = (g.W.Wire.coming c.pieces.wire, g.W.Wire.log c.pieces.wire) in
    let d : Told = (g.W.Wire.coming c.take_piece.new.wire, g.W.Wire.log c.take_piece.new.wire) in (
      c.in-Ok-false.ensures.up,
      c.in-Ok-false.ensures.still (λ e. cc e) ∙ c.pieces.invariant.1,
      c.in-Ok-false.ensures.dials ∙ c.pieces.invariant.2,
      piece_behind c.args.kept.now c.pieces.kept c.take_piece.new.kept a b d so_far.0 e.0 false false so_far.1 so_far.2 (subst (λ x. Brings b e.0 x false d) c.in-Ok-false.field-0-test e.1) e.2.0,
    )

pub returns-in-Err-clause-exact : goal.returns-in-Err-clause-exact
returns-in-Err-clause-exact g c =
    let so_far = c.pieces.invariant.3 in
    received_open c.args.kept.now c.pieces.kept (g.W.Wire.coming c.args.wire.now, g.W.Wire.log c.args.wire.now) (g.W.Wire.coming c.pieces.wire, g.W.Wire.log c.pieces.wire) (is_failure c.in-Err.fault) so_far.0
    (subst (λ x. Brings (g.W.Wire.coming c.args.wire.now, g.W.Wire.log c.args.wire.now) so_far.0 false x (g.W.Wire.coming c.pieces.wire, g.W.Wire.log c.pieces.wire)) (sym (line_no_failure c.pieces.kept c.in-Err.fault (subst (λ l. LookSays l (Err c.in-Err.fault)) c.bytes.ensures c.in-Err.ensures.exact))) so_far.1) so_far.2
    (bad_line c.pieces.kept c.pieces.kept false c.in-Err.fault (subst (λ l. LookSays l (Err c.in-Err.fault)) c.bytes.ensures c.in-Err.ensures.exact))

pub returns-in-Ok-true-clause-exact : goal.returns-in-Ok-true-clause-exact
returns-in-Ok-true-clause-exact g c =
    let e = c.in-Ok-true.ensures.exact in
    let so_far = c.pieces.invariant.3 in
    let a : Told = (g.W.Wire.coming c.args.wire.now, g.W.Wire.log c.args.wire.now) in
    let b : Told = (g.W.Wire.coming c.pieces.wire, g.W.Wire.log c.pieces.wire) in
    let d : Told = (g.W.Wire.coming c.take_piece.new.wire, g.W.Wire.log c.take_piece.new.wire) in
    let none = e.2.1 c.in-Ok-true.field-0-test in
    let same : c.take_piece.new.kept ≡ c.pieces.kept = e.2.0 ∙ ap (λ l. c.pieces.kept ++ l) none ∙ append-nil c.pieces.kept in
    let s = piece_behind c.args.kept.now c.pieces.kept c.take_piece.new.kept a b d so_far.0 e.0 true false so_far.1 so_far.2 (subst (λ x. Brings b e.0 x false d) c.in-Ok-true.field-0-test e.1) e.2.0 in
    received_ended c.args.kept.now c.take_piece.new.kept a d false s.0 s.1 s.2 (c.in-Ok-true.ensures.end c.in-Ok-true.field-0-test)
    (subst HasOpenLine (sym same) (seen_line c.bytes.result.now c.pieces.kept c.in-Ok-None.field-0 c.bytes.ensures c.in-Ok-None.field-0-is c.in-Ok-None.ensures.exact), refl)

pub returns-in-Err-take_piece-clause-exact : goal.returns-in-Err-take_piece-clause-exact
returns-in-Err-take_piece-clause-exact g c =
    let e = c.in-Err-take_piece.ensures.exact in
    let so_far = c.pieces.invariant.3 in
    let old = c.pieces.kept in
    let a : Told = (g.W.Wire.coming c.args.wire.now, g.W.Wire.log c.args.wire.now) in
    let b : Told = (g.W.Wire.coming c.pieces.wire, g.W.Wire.log c.pieces.wire) in
    let d : Told = (g.W.Wire.coming c.take_piece.new.wire, g.W.Wire.log c.take_piece.new.wire) in
    let s = piece_behind c.args.kept.now old (old ++ e.0) a b d so_far.0 e.0 false (is_failure c.in-Err-take_piece.fault) so_far.1 so_far.2 e.1 refl in
    received_open c.args.kept.now (old ++ e.0) a d (is_failure c.in-Err-take_piece.fault) s.0 s.1 s.2
    (piece_fails (λ f. LineSays c.take_piece.new.kept (Err f) (old ++ e.0) false) old c.take_piece.new.kept e.0 c.in-Err-take_piece.fault e.2
    (λ none. (subst HasOpenLine (sym (ap (λ l. old ++ l) none ∙ append-nil old)) (seen_line c.bytes.result.now c.pieces.kept c.in-Ok-None.field-0 c.bytes.ensures c.in-Ok-None.field-0-is c.in-Ok-None.ensures.exact), refl))
    tt)
