use Rattle.std.proofs.Common.{◌≡◌, ◌+◌, ◌∷◌, [], length, refl, sym, ap, ◌∙◌, subst, arith, Err}
use Rattle.std.proofs.lemmas.Result.{err_from_is_err_and}
use Rattle.meta_schema.specs.PassedOn.{asked_node, asked_nodes, asked_depth, AskedOne}
use Rattle.response_model.specs.ResponseText.{key_text, tree_text}
use Rattle.schema_facts.specs.FactsViews.{facts_data}
use Rattle.schema_facts.specs.Things.{thing_data, held_data}
use Rattle.schema_facts.specs.Table.{held}
use Rattle.local_introspection.specs.Counting.{tree_under}
use Rattle.local_introspection.specs.Measuring.{Measures}
use Rattle.local_introspection.proofs.MeasureSteps.{entries_go_on, front_stops, entries_stop, entries_end, key_stops, entry_measured}
use Rattle.local_introspection.proofs.Opened.{open_asked, less_deep}
use Rattle.local_introspection.proofs.measuring.+measuring.Goals as goal

pub measure_entries-measure_entry-requires : goal.measure_entries-measure_entry-requires
measure_entries-measure_entry-requires t c =
    let less = less_deep c.args.nodes.now c.nodes.node-index c.node-item.result c.nodes-test.true c.node-item.is in omega arith

pub measure_entries-returns-in_err-take : goal.measure_entries-returns-in_err-take
measure_entries-returns-in_err-take t c =
    let p = err_from_is_err_and c.from_residual.result c.from_residual.ensures.1 in
    rw (p.1, p.2) (front_stops (facts_data c.args.facts.now) (thing_data c.args.thing) c.args.room.now (Unit {0}) c.nodes.room c.take.new.room c.in_err-take.field-0.0 c.nodes.front.now
    c.args.nodes.now c.nodes.node-index c.node-item.result c.nodes-test.true c.node-item.is c.nodes.invariant.1 c.in_err-take.ensures.short.0 c.in_err-take.ensures.short.1)

pub measure_entries-returns-in_err-measure_entry : goal.measure_entries-returns-in_err-measure_entry
measure_entries-returns-in_err-measure_entry t c =
    let p = err_from_is_err_and c.from_residual-in_err-measure_entry.result c.from_residual-in_err-measure_entry.ensures.1 in
    rw (p.1, p.2) (entries_stop (facts_data c.args.facts.now) (thing_data c.args.thing) c.args.room.now (Unit {0}) c.nodes.room c.take.new.room c.measure_entry.new.room c.in_err-measure_entry.field-0.0 c.nodes.front.now
    c.args.nodes.now c.nodes.node-index c.node-item.result c.nodes-test.true c.node-item.is c.nodes.invariant.1 c.in_ok-take.ensures.taken c.in_err-measure_entry.ensures)

pub measure_entries-nodes-preserved : goal.measure_entries-nodes-preserved
unfolding lib.Utf8.encode
measure_entries-nodes-preserved t c = (
  (44 ∷ [], (refl, refl)),
  entries_go_on (facts_data c.args.facts.now) (thing_data c.args.thing) c.args.room.now c.nodes.room c.take.new.room c.measure_entry.new.room c.nodes.front.now
      c.args.nodes.now c.nodes.node-index c.node-item.result c.nodes-test.true c.node-item.is c.nodes.invariant.1 c.in_ok-take.ensures.taken c.in_ok-measure_entry.ensures,
)

pub measure_entries-returns : goal.measure_entries-returns
measure_entries-returns t c =
    entries_end (facts_data c.args.facts.now) (thing_data c.args.thing) c.args.room.now _ c.nodes.room c.take-2.new.room c.take-2.result c.nodes.front.now
    c.args.nodes.now c.nodes.node-index c.nodes-test.false c.nodes.invariant.1 c.take-2.ensures.taken c.take-2.ensures.short

pub measure_entry-measure_held-requires : goal.measure_entry-measure_held-requires
measure_entry-measure_held-requires t c =
    let opened = ap (λ (n : AskedOne). asked_depth n.below) (open_asked c.args.node.now) in
    let same = ap (λ ns. asked_depth (asked_nodes ns)) c.as_slice.ensures.value in omega (arith, opened, same)

pub measure_entry-returns-in_err-measure_key : goal.measure_entry-returns-in_err-measure_key
measure_entry-returns-in_err-measure_key t c =
    let p = err_from_is_err_and c.from_residual.result c.from_residual.ensures.1 in
    let n = asked_node c.args.node.now in
    let key : c.as_str.result.now ≡ n.key = c.as_str.ensures ∙ ap (λ (m : AskedOne). m.key) (sym (open_asked c.args.node.now)) in
    rw (p.1, p.2) (key_stops (Unit {0}) c.args.room.now c.measure_key.new.room c.in_err-measure_key.field-0.0 (key_text n.key) (tree_text (tree_under (facts_data c.args.facts.now) (thing_data c.args.thing) n))
    (subst (λ k. Measures {T = Unit {0}} c.args.room.now c.measure_key.new.room (Err c.in_err-measure_key.field-0.0) (key_text k)) key c.in_err-measure_key.ensures))

pub measure_entry-returns : goal.measure_entry-returns
measure_entry-returns t c =
    entry_measured _ (facts_data c.args.facts.now) (thing_data c.args.thing) (asked_node c.args.node.now) c.args.room.now c.measure_key.new.room c.measure_held.new.room c.measure_held.result
    (held_data c.in_ok-found.found) (asked_nodes c.as_slice.result.now)
    (c.in_ok-measure_key.ensures ∙ ap (λ k. c.measure_key.new.room + length (key_text k)) (c.as_str.ensures ∙ ap (λ (n : AskedOne). n.key) (sym (open_asked c.args.node.now))))
    (c.in_ok-found.ensures ∙ ap (λ w. held (facts_data c.args.facts.now) (thing_data c.args.thing) w) c.what_of.ensures)
    (ap asked_nodes c.as_slice.ensures.value ∙ ap (λ (n : AskedOne). n.below) (sym (open_asked c.args.node.now)))
    c.measure_held.ensures
