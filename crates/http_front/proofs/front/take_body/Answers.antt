-- The source failed before the body was there.
use Rattle.std.proofs.Common.{◌<◌, ◌++◌, sym, ap, subst, arith, length, ◌∙◌, Err, refl, false}
use Rattle.std.proofs.lemmas.List.{append-nil}
use Rattle.http_front.specs.Service.{BodySays}
use Rattle.http_front.proofs.Fronts.{piece_fails}
use Rattle.outside.proofs.Taking.{after_piece, taken_open}
use Rattle.http_front.proofs.front.take_body.Goals as goal

pub returns-in-Err-clause-exact : goal.returns-in-Err-clause-exact
returns-in-Err-clause-exact g c =
    let e = c.in-Err.ensures.exact in
    let old = c.loop-kept.kept.items in
    let t = c.loop-kept.invariant.1 in
    let s = after_piece c.args.kept.now.items old (old ++ e.0) _ _ _ t.0 e.0 t.1 t.2 e.1 refl in
    taken_open c.args.kept.now.items (old ++ e.0) _ _ s.0 s.1 s.2
    (piece_fails (λ f. BodySays c.args.total c.take_piece.new.kept.items (Err f) (old ++ e.0) false) old c.take_piece.new.kept.items e.0 c.in-Err.fault e.2
    (λ none. (subst (λ l. length l < c.args.total) (sym (ap (λ l. old ++ l) none ∙ append-nil old)) (omega (arith, c.loop-kept-test.true, c.len.ensures)), refl))
    tt)
