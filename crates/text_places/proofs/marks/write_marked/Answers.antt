use Rattle.std.proofs.Common.{◌+◌, ◌<◌, min, length, drop, sym, ap, ◌∙◌, subst, arith}
use Rattle.std.specs.Str.{IsCharBoundary}
use Rattle.text_places.specs.Places.{line_start, line_from}
use Rattle.text_places.proofs.LineBorders.{start_border, start_within, end_border, marked_found}
use Rattle.text_places.proofs.marks.write_marked.Goals as goal

pub range-requires-clause-start_boundary : goal.range-requires-clause-start_boundary
range-requires-clause-start_boundary c =
    let text = c.args.text.now in
    let at = min c.args.offset (length text) in
    subst (λ s. 0 < s → IsCharBoundary text s) (sym c.place_in-place.ensures.start) (start_border text at c.utf8.text (omega arith))

pub range-requires-clause-end_boundary : goal.range-requires-clause-end_boundary
range-requires-clause-end_boundary c =
    let text = c.args.text.now in
    let at = min c.args.offset (length text) in
    let few = start_within text at in
    end_border text (line_start text at) c.place_in-place.result.end (omega arith)
    (c.place_in-place.ensures.end ∙ ap (λ s. s + length (line_from (drop (line_start text at) text))) c.place_in-place.ensures.start)

pub returns : goal.returns
returns c = marked_found c.push_marked.result _ _ c.args.text.now (min c.args.offset (length c.args.text.now)) c.place_in-place.result.start c.place_in-place.result.end c.place_in-place.result.column c.range.result.now c.deref.result.now
    c.place_in-place.ensures.start c.place_in-place.ensures.end c.place_in-place.ensures.column c.range.ensures.value (c.deref.ensures.value ∙ c.in_ok-all.ensures) c.push_marked.ensures
