use Rattle.std.proofs.Common.{◌+◌, ◌∙◌, sym, ap, drop, get_or, add-one, arith}
use Rattle.std.proofs.Math.Seq.{drop-cons}
use Rattle.std.proofs.Math.ListN.{drop_of_length-le}
use Rattle.std.specs.Option.{option_map}
use Rattle.upstream_link.specs.Chunks.{trailer_from}
use Rattle.upstream_link.proofs.Lines.{trailer_ends, trailer_goes_on, no_trailer}
use Rattle.upstream_link.proofs.chunks.trailer_length.Goals as goal

pub returns-then-ends_here : goal.returns-then-ends_here
returns-then-ends_here c =
    let bytes = c.args.bytes.now in
    let at = c.loop-at.at in
    let here = drop-cons bytes at 0 c.loop-at-test.true in
    sym (trailer_ends c.loop-at.state at (get_or bytes at 0) _ (sym c.ends_here.ensures ∙ c.if-ends_here.true))
    ∙ ap (λ l. option_map (λ n. n + at) (trailer_from c.loop-at.state l)) (sym here) ∙ c.loop-at.invariant

pub loop-at-preserved : goal.loop-at-preserved
loop-at-preserved c =
    let bytes = c.args.bytes.now in
    let at = c.loop-at.at in
    let here = drop-cons bytes at 0 c.loop-at-test.true in
    ap (λ s. option_map (λ n. n + (at + 1)) (trailer_from s (drop (at + 1) bytes))) c.next_state-state.ensures
    ∙ sym (trailer_goes_on c.loop-at.state at (get_or bytes at 0) (drop (at + 1) bytes) (sym c.ends_here.ensures ∙ c.if-ends_here.false))
    ∙ ap (λ l. option_map (λ n. n + at) (trailer_from c.loop-at.state l)) (rw (add-one) (sym here)) ∙ c.loop-at.invariant

pub returns : goal.returns
returns c =
    let bytes = c.args.bytes.now in
    let at = c.loop-at.at in
    ap (option_map (λ n. n + at)) (sym (no_trailer c.loop-at.state))
    ∙ ap (λ l. option_map (λ n. n + at) (trailer_from c.loop-at.state l)) (sym (drop_of_length-le bytes (omega (arith, c.loop-at-test.false)))) ∙ c.loop-at.invariant
