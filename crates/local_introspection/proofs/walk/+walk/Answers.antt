use Rattle.std.proofs.Common.{◌++◌, ◌∷◌, [], refl, sym, ap, ◌∙◌, arith, string_bytes}
use Rattle.meta_schema.specs.PassedOn.{asked_node, asked_nodes, asked_depth, AskedOne}
use Rattle.response_model.specs.ResponseText.{key_text}
use Rattle.schema_facts.specs.FactsViews.{facts_data}
use Rattle.schema_facts.specs.Things.{thing_data, held_data}
use Rattle.schema_facts.specs.Table.{held}
use Rattle.local_introspection.proofs.WalkSteps.{on_ok, pushed, entries_go_on, entries_end, entry_written}
use Rattle.local_introspection.proofs.Opened.{open_asked, less_deep}
use Rattle.local_introspection.proofs.walk.+walk.Goals as goal

pub write_entries-write_entry-requires : goal.write_entries-write_entry-requires
write_entries-write_entry-requires t c =
    let less = less_deep c.args.nodes.now c.nodes.node-index c.node-item.result c.nodes-test.true c.node-item.is in omega arith

pub write_entries-nodes-preserved : goal.write_entries-nodes-preserved
unfolding lib.Utf8.encode
write_entries-nodes-preserved t c = (
  (44 ∷ [], (refl, refl)),
  entries_go_on (facts_data c.args.facts.now) (thing_data c.args.thing) (string_bytes c.args.into.now) (string_bytes c.nodes.into) (string_bytes c.push_str.new.self) (string_bytes c.write_entry.new.into)
      c.nodes.front.now c.args.nodes.now c.nodes.node-index c.node-item.result c.nodes-test.true c.node-item.is c.nodes.invariant.1 c.in_ok-push_str.ensures.bytes c.in_ok-write_entry.ensures,
)

pub write_entry-write_held-requires : goal.write_entry-write_held-requires
write_entry-write_held-requires t c =
    let opened = ap (λ (n : AskedOne). asked_depth n.below) (open_asked c.args.node.now) in
    let same = ap (λ ns. asked_depth (asked_nodes ns)) c.as_slice.ensures.value in omega (arith, opened, same)

pub write_entries-returns : goal.write_entries-returns
write_entries-returns t c =
    on_ok c.push_str-2.result _ _ (entries_end (facts_data c.args.facts.now) (thing_data c.args.thing) (string_bytes c.args.into.now) (string_bytes c.nodes.into) (string_bytes c.push_str-2.new.self)
    c.nodes.front.now c.args.nodes.now c.nodes.node-index c.nodes-test.false c.nodes.invariant.1) (pushed c.push_str-2.result (string_bytes c.nodes.into) (125 ∷ []) (string_bytes c.push_str-2.new.self) c.push_str-2.ensures.bytes)

pub write_entry-returns : goal.write_entry-returns
write_entry-returns t c =
    on_ok c.write_held.result _ _ (entry_written (facts_data c.args.facts.now) (thing_data c.args.thing) (asked_node c.args.node.now) (string_bytes c.args.into.now) (string_bytes c.write_key.new.into) (string_bytes c.write_held.new.into)
    (held_data c.in_ok-found.found) (asked_nodes c.as_slice.result.now)
    (c.in_ok-write_key.ensures ∙ ap (λ k. string_bytes c.args.into.now ++ key_text k) (c.as_str.ensures ∙ ap (λ (n : AskedOne). n.key) (sym (open_asked c.args.node.now))))
    (c.in_ok-found.ensures ∙ ap (λ w. held (facts_data c.args.facts.now) (thing_data c.args.thing) w) c.what_of.ensures)
    (ap asked_nodes c.as_slice.ensures.value ∙ ap (λ (n : AskedOne). n.below) (sym (open_asked c.args.node.now)))) c.write_held.ensures
