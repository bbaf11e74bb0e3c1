use Rattle.std.proofs.Common.{sym, ap, ◌∙◌, arith}
use Rattle.std.proofs.lemmas.Result.{err_from_is_err_and}
use Rattle.meta_schema.specs.PassedOn.{asked_node, asked_nodes, asked_depth, AskedOne}
use Rattle.schema_facts.specs.FactsViews.{facts_data}
use Rattle.schema_facts.specs.Things.{thing_data, held_data}
use Rattle.schema_facts.specs.Table.{held}
use Rattle.meta_schema.specs.MetaTypes.{weight_of}
use Rattle.local_introspection.proofs.CountSteps.{entries_go_on, entries_stop, entries_end, entry_counted, entry_stops}
use Rattle.local_introspection.proofs.Opened.{open_asked, less_deep}
use Rattle.local_introspection.proofs.counting.+counting.Goals as goal

pub count_entries-count_entry-requires : goal.count_entries-count_entry-requires
count_entries-count_entry-requires t c =
    let less = less_deep c.args.nodes.now c.nodes.node-index c.node-item.result c.nodes-test.true c.node-item.is in omega arith

pub count_entries-returns-in_err-count_entry : goal.count_entries-returns-in_err-count_entry
count_entries-returns-in_err-count_entry t c =
    let p = err_from_is_err_and c.from_residual.result c.from_residual.ensures.1 in
    rw (p.1, p.2) (entries_stop (facts_data c.args.facts.now) (thing_data c.args.thing) c.args.left.now c.nodes.left c.count_entry.new.left
    c.nodes.cost c.in_err-count_entry.field-0.0 c.args.nodes.now c.nodes.node-index c.node-item.result c.nodes-test.true c.node-item.is c.nodes.invariant c.in_err-count_entry.ensures)

pub count_entries-nodes-preserved : goal.count_entries-nodes-preserved
count_entries-nodes-preserved t c =
    entries_go_on (facts_data c.args.facts.now) (thing_data c.args.thing) c.args.left.now c.nodes.left c.count_entry.new.left
    c.nodes.cost c.in_ok-count_entry.field-0 c.sum-cost.result c.args.nodes.now c.nodes.node-index c.node-item.result c.nodes-test.true c.node-item.is c.nodes.invariant c.in_ok-count_entry.ensures c.sum-cost.ensures.types c.sum-cost.ensures.fields

pub count_entries-returns : goal.count_entries-returns
count_entries-returns t c = entries_end (facts_data c.args.facts.now) (thing_data c.args.thing) c.args.left.now c.nodes.left c.nodes.cost c.args.nodes.now c.nodes.node-index c.nodes-test.false c.nodes.invariant

pub count_entry-count_held-requires : goal.count_entry-count_held-requires
count_entry-count_held-requires t c =
    let opened = ap (λ (n : AskedOne). asked_depth n.below) (open_asked c.args.node.now) in
    let same = ap (λ ns. asked_depth (asked_nodes ns)) c.as_slice.ensures.value in omega (arith, opened, same)

pub count_entry-returns-in_err-below : goal.count_entry-returns-in_err-below
count_entry-returns-in_err-below t c =
    let p = err_from_is_err_and c.from_residual-in_err-below.result c.from_residual-in_err-below.ensures.1 in
    rw (p.1, p.2) (entry_stops (facts_data c.args.facts.now) (thing_data c.args.thing) (asked_node c.args.node.now) c.args.left.now c.count_held.new.left
    c.in_err-below.field-0.0 (held_data c.in_ok-found.found) (asked_nodes c.as_slice.result.now)
    (c.in_ok-found.ensures ∙ ap (λ w. held (facts_data c.args.facts.now) (thing_data c.args.thing) w) c.what_of-what.ensures)
    (ap asked_nodes c.as_slice.ensures.value ∙ ap (λ (n : AskedOne). n.below) (sym (open_asked c.args.node.now)))
    c.in_err-below.ensures)

pub count_entry-returns : goal.count_entry-returns
count_entry-returns t c =
    entry_counted (facts_data c.args.facts.now) (thing_data c.args.thing) (asked_node c.args.node.now) c.args.left.now c.count_held.new.left
    c.in_ok-below.below c.sum.result (held_data c.in_ok-found.found) (asked_nodes c.as_slice.result.now) c.weight_of.result
    (c.in_ok-found.ensures ∙ ap (λ w. held (facts_data c.args.facts.now) (thing_data c.args.thing) w) c.what_of-what.ensures)
    (ap asked_nodes c.as_slice.ensures.value ∙ ap (λ (n : AskedOne). n.below) (sym (open_asked c.args.node.now)))
    c.in_ok-below.ensures
    (c.weight_of.ensures ∙ ap weight_of c.what_of-what.ensures)
    c.sum.ensures.types c.sum.ensures.fields
