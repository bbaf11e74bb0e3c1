-- A look, and then a piece more.
use Rattle.std.proofs.Common.{◌≡◌, ◌<◌, ◌++◌, inl, sym, ap, subst, length, ◌∙◌, Ok, refl, false, List, ℕ, Option, None}
use Rattle.std.proofs.lemmas.List.{append-nil}
use Rattle.http_front.specs.Asks.{HasFault, IsPartOfHead}
use Rattle.http_front.specs.Service.{AtEndIs, LookIs}
use Rattle.http_front.specs.declared.head.Head.{Head}
use Rattle.http_front.proofs.Fronts.{at_end, piece_fails}
use Rattle.outside.proofs.Taking.{after_piece, taken_open, taken_ended}
use Rattle.http_front.proofs.front.take_head.Goals as goal

seen : (names : List (List ℕ)) (l k : List ℕ) (o : Option Head) → l ≡ k → o ≡ None → LookIs names l (Ok o) → IsPartOfHead k × (length k < 16384)
seen names l k o same none is = subst (λ x. LookIs names x (Ok None)) same (subst (λ x. LookIs names l (Ok x)) none is)

pub returns-in-Err-clause-exact : goal.returns-in-Err-clause-exact
returns-in-Err-clause-exact g c =
    taken_open c.args.kept.now.items c.pieces.kept.items _ _ c.pieces.invariant.1.0 c.pieces.invariant.1.1 c.pieces.invariant.1.2 (subst (λ l. HasFault l false c.in-Err.fault) c.deref.ensures.value c.in-Err.ensures.exact)

pub returns-in-Ok-true-clause-exact : goal.returns-in-Ok-true-clause-exact
returns-in-Ok-true-clause-exact g c =
    let e = c.in-Ok-true.ensures.exact in
    let none = e.2.1 c.in-Ok-true.field-0-test in
    let same : c.take_piece.new.kept.items ≡ c.pieces.kept.items = e.2.0 ∙ ap (λ l. c.pieces.kept.items ++ l) none ∙ append-nil c.pieces.kept.items in
    let s = after_piece c.args.kept.now.items c.pieces.kept.items c.take_piece.new.kept.items _ _ _ c.pieces.invariant.1.0 e.0 c.pieces.invariant.1.1 c.pieces.invariant.1.2 e.1 e.2.0 in
    taken_ended c.args.kept.now.items c.take_piece.new.kept.items _ _ s.0 s.1 s.2 (c.in-Ok-true.ensures.end c.in-Ok-true.field-0-test)
    (at_end c.take_piece.new.kept.items c.fault_at_end.result (subst (λ l. AtEndIs l c.fault_at_end.result) c.deref-in-Ok-true.ensures.value c.fault_at_end.ensures)
    (subst (λ l. IsPartOfHead l × (length l < 16384)) (sym same) (seen c.args.names.now c.deref.result.now c.pieces.kept.items c.in-Ok-None.field-0 c.deref.ensures.value c.in-Ok-None.field-0-is c.in-Ok-None.ensures.exact)))

pub pieces-preserved : goal.pieces-preserved
pieces-preserved g c =
    let e = c.in-Ok-false.ensures.exact in (
      c.in-Ok-false.ensures.still (λ e. cc e) ∙ c.pieces.invariant.0,
      after_piece c.args.kept.now.items c.pieces.kept.items c.take_piece.new.kept.items _ _ _ c.pieces.invariant.1.0 e.0 c.pieces.invariant.1.1 c.pieces.invariant.1.2 e.1 e.2.0,
      c.in-Ok-false.ensures.on c.in-Ok-false.field-0-test ∙ c.pieces.invariant.2,
    )

pub returns-in-Err-take_piece-clause-exact : goal.returns-in-Err-take_piece-clause-exact
returns-in-Err-take_piece-clause-exact g c =
    let e = c.in-Err-take_piece.ensures.exact in
    let s = after_piece c.args.kept.now.items c.pieces.kept.items (c.pieces.kept.items ++ e.0) _ _ _ c.pieces.invariant.1.0 e.0 c.pieces.invariant.1.1 c.pieces.invariant.1.2 e.1 refl in
    taken_open c.args.kept.now.items (c.pieces.kept.items ++ e.0) _ _ s.0 s.1 s.2
    (piece_fails (λ f. HasFault (c.pieces.kept.items ++ e.0) false f) c.pieces.kept.items c.take_piece.new.kept.items e.0 c.in-Err-take_piece.fault e.2
    (λ none. (inl (subst (λ l. IsPartOfHead l × (length l < 16384)) (sym (ap (λ l. c.pieces.kept.items ++ l) none ∙ append-nil c.pieces.kept.items)) (seen c.args.names.now c.deref.result.now c.pieces.kept.items c.in-Ok-None.field-0 c.deref.ensures.value c.in-Ok-None.field-0-is c.in-Ok-None.ensures.exact)), refl))
    tt)
