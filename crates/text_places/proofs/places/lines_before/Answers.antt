use Rattle.std.proofs.Common.{refl, arith, true, false, sym, ◌∙◌}
use Rattle.text_places.specs.Places.{lines_ended, line_start}
use Rattle.text_places.proofs.Walking.{ended_next, start_next}
use Rattle.text_places.proofs.places.lines_before.Goals as goal
use Rattle.text_places.proofs.places.lines_before.Goals.{then-ends_line, else-ends_line}

pub loop-index-init : goal.loop-index-init
unfolding lines_ended line_start
loop-index-init c = record { ended = refl; start = refl; few = omega arith; before = omega arith }

pub loop-index-preserved : goal.loop-index-preserved
loop-index-preserved c =
    let text = c.args.bytes.now in
    let at = c.loop-index.index in
    let held = c.loop-index.invariant in
    elim c.if-ends_line.branch [
      | then-ends_line w ↦ record {
        ended = ended_next text at c.loop-index.ended c.if-ends_line.ended true (sym w.if-ends_line.true ∙ c.ends_line.ensures) held.ended w.ended-is;
        start = start_next text at c.loop-index.start c.if-ends_line.start true (sym w.if-ends_line.true ∙ c.ends_line.ensures) held.start w.start-is;
        few = (let e = w.ended-is in let f = held.few in omega arith);
        before = (let e = w.start-is in omega arith);
      }
      | else-ends_line w ↦ record {
        ended = ended_next text at c.loop-index.ended c.if-ends_line.ended false (sym w.if-ends_line.false ∙ c.ends_line.ensures) held.ended (let e = w.ended-is in omega arith);
        start = start_next text at c.loop-index.start c.if-ends_line.start false (sym w.if-ends_line.false ∙ c.ends_line.ensures) held.start w.start-is;
        few = (let e = w.ended-is in let f = held.few in omega arith);
        before = (let e = w.start-is in let b = held.before in omega arith);
      }
    ]
