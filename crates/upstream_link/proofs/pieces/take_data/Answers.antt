use Rattle.std.proofs.Common.{◌≡◌, ◌<◌, ◌++◌, ◌∙◌, sym, ap, subst, arith, length, Err, refl, [], true, false}
use Rattle.std.proofs.lemmas.List.{append-nil}
use Rattle.upstream_link.specs.Received.{Told, Brings, is_failure}
use Rattle.upstream_link.specs.Service.{DataSays}
use Rattle.upstream_link.proofs.Lines.{piece_fails}
use Rattle.upstream_link.proofs.Receiving.{brings_none, piece_behind, received_open, received_ended}
use Rattle.upstream_link.proofs.pieces.take_data.Goals as goal

pub pieces-init : goal.pieces-init
pieces-init g c =
    (c.requires.dialled, omega arith, refl, ([], brings_none (g.W.Wire.coming c.args.wire.now, g.W.Wire.log c.args.wire.now), sym (append-nil c.args.kept.now)))

pub pieces-preserved : goal.pieces-preserved
pieces-preserved g c =
    let e = c.in-Ok-false.ensures.exact in
    let so_far = c.pieces.invariant.3 in
    let a : Told = (g.W.Wire.coming c.args.wire.now, g.W.Wire.log c.args.wire.now) in
    let b : Told = (g.W.Wire.coming c.pieces.wire, g.W.Wire.log c.pieces.wire) in
    let d : Told = (g.W.Wire.coming c.take_piece.new.wire, g.W.Wire.log c.take_piece.new.wire) in (
      c.in-Ok-false.ensures.up,
      c.in-Ok-false.ensures.still (λ e. cc e) ∙ c.pieces.invariant.1,
      c.in-Ok-false.ensures.dials ∙ c.pieces.invariant.2,
      piece_behind c.args.kept.now c.pieces.kept c.take_piece.new.kept a b d so_far.0 e.0 false false so_far.1 so_far.2 (subst (λ x. Brings b e.0 x false d) c.in-Ok-false.field-0-test e.1) e.2.0,
    )

pub returns-in-Ok-true-clause-exact : goal.returns-in-Ok-true-clause-exact
returns-in-Ok-true-clause-exact g c =
    let e = c.in-Ok-true.ensures.exact in
    let so_far = c.pieces.invariant.3 in
    let a : Told = (g.W.Wire.coming c.args.wire.now, g.W.Wire.log c.args.wire.now) in
    let b : Told = (g.W.Wire.coming c.pieces.wire, g.W.Wire.log c.pieces.wire) in
    let d : Told = (g.W.Wire.coming c.take_piece.new.wire, g.W.Wire.log c.take_piece.new.wire) in
    let none = e.2.1 c.in-Ok-true.field-0-test in
    let same : c.take_piece.new.kept ≡ c.pieces.kept = e.2.0 ∙ ap (λ l. c.pieces.kept ++ l) none ∙ append-nil c.pieces.kept in
    let s = piece_behind c.args.kept.now c.pieces.kept c.take_piece.new.kept a b d so_far.0 e.0 true false so_far.1 so_far.2 (subst (λ x. Brings b e.0 x false d) c.in-Ok-true.field-0-test e.1) e.2.0 in
    received_ended c.args.kept.now c.take_piece.new.kept a d false s.0 s.1 s.2 (c.in-Ok-true.ensures.end c.in-Ok-true.field-0-test)
    (omega (arith, ap length same, c.pieces-test.true, c.len.ensures), refl)

pub returns-in-Err-clause-exact : goal.returns-in-Err-clause-exact
returns-in-Err-clause-exact g c =
    let e = c.in-Err.ensures.exact in
    let so_far = c.pieces.invariant.3 in
    let old = c.pieces.kept in
    let a : Told = (g.W.Wire.coming c.args.wire.now, g.W.Wire.log c.args.wire.now) in
    let b : Told = (g.W.Wire.coming c.pieces.wire, g.W.Wire.log c.pieces.wire) in
    let d : Told = (g.W.Wire.coming c.take_piece.new.wire, g.W.Wire.log c.take_piece.new.wire) in
    let s = piece_behind c.args.kept.now old (old ++ e.0) a b d so_far.0 e.0 false (is_failure c.in-Err.fault) so_far.1 so_far.2 e.1 refl in
    received_open c.args.kept.now (old ++ e.0) a d (is_failure c.in-Err.fault) s.0 s.1 s.2
    (piece_fails (λ f. DataSays c.args.total c.take_piece.new.kept (Err f) (old ++ e.0) false) old c.take_piece.new.kept e.0 c.in-Err.fault e.2
    (λ none. (subst (λ l. length l < c.args.total) (sym (ap (λ l. old ++ l) none ∙ append-nil old)) (omega (arith, c.pieces-test.true, c.len.ensures)), refl))
    tt)
