use Rattle.std.proofs.Common.{◌-◌, rules, refl, sym, ap, ◌∙◌}
use Rattle.response_model.specs.Filled.{repeated}
use Rattle.static_cost.specs.Filling.{item_of}
use Rattle.static_cost.proofs.Fillings.{less_deep, no_rows_left, all_filled, passed, entry_filled, entry_lacks, items_filled, items_lack, list_is}
use Rattle.static_cost.proofs.filling.+filling.Goals as goal

pub fill_entries-returns-then-row-depth : goal.fill_entries-returns-then-row-depth
fill_entries-returns-then-row-depth t c = all_filled c.args.of.now c.args.choices.now c.args.from c.rows.at c.args.depth c.args.on c.rows.entries.items c.args.left.now c.rows.left
    (less_deep c.args.of.now c.args.choices.now c.rows.at c.args.depth c.args.on c.node_rows-rows.result.now c.index-rows-at.result c.node_rows-rows.ensures c.rows-test.true c.index-rows-at.is c.if-row-depth.true)
    c.rows.invariant

pub fill_entries-returns : goal.fill_entries-returns
fill_entries-returns t c = all_filled c.args.of.now c.args.choices.now c.args.from c.rows.at c.args.depth c.args.on c.rows.entries.items c.args.left.now c.rows.left
    (no_rows_left c.args.of.now c.args.choices.now c.rows.at c.args.depth c.args.on c.node_rows-rows.result.now c.node_rows-rows.ensures (search rules))
    c.rows.invariant

pub fill_entries-rows-preserved-then-not-stands_at : goal.fill_entries-rows-preserved-then-not-stands_at
fill_entries-rows-preserved-then-not-stands_at t c = passed c.args.of.now c.args.choices.now c.args.from c.rows.at c.args.depth c.args.on c.node_rows-rows.result.now c.index-rows-at.result c.rows.entries.items c.args.left.now c.rows.left
    c.node_rows-rows.ensures c.rows-test.true c.index-rows-at.is c.if-row-depth.false (sym c.stands_at.ensures ∙ c.if-not-stands_at.true) c.rows.invariant

pub fill_entries-returns-in-Err : goal.fill_entries-returns-in-Err
fill_entries-returns-in-Err t c = entry_lacks c.args.of.now c.args.choices.now c.args.from c.rows.at c.args.depth c.args.on c.node_rows-rows.result.now c.index-rows-at.result c.choice_at.result c.rows.entries.items c.args.left.now c.rows.left c.in-Err.fault
    c.node_rows-rows.ensures c.rows-test.true c.index-rows-at.is c.choice_at.ensures c.if-row-depth.false (sym c.stands_at.ensures ∙ c.if-not-stands_at.false) c.in-Err.ensures c.rows.invariant

pub fill_entries-rows-preserved : goal.fill_entries-rows-preserved
fill_entries-rows-preserved t c = entry_filled c.args.of.now c.args.choices.now c.args.from c.rows.at c.args.depth c.args.on c.node_rows-rows.result.now c.index-rows-at.result c.choice_at.result c.rows.entries.items c.push.new.self.items c.in-Ok.entry c.args.left.now c.rows.left c.fill_entry.new.left
    c.node_rows-rows.ensures c.rows-test.true c.index-rows-at.is c.choice_at.ensures c.if-row-depth.false (sym c.stands_at.ensures ∙ c.if-not-stands_at.false)
    c.in-Ok.ensures.1 c.in-Ok.ensures.0 c.in_ok-push-in-Ok.ensures.items c.rows.invariant

pub fill_items-returns-in-Err-take_items : goal.fill_items-returns-in-Err-take_items
fill_items-returns-in-Err-take_items t c = items_lack c.args.count (c.args.left.now - c.fill_item.new.left) c.args.left.now c.fill_item.new.left (item_of c.args.of.now c.args.choices.now c.args.node.now) c.in-Err-take_items.fault
    c.if-count-eq0.false refl c.in-Ok.ensures.0 c.in-Err-take_items.ensures

pub fill_items-returns : goal.fill_items-returns
fill_items-returns t c = (
  items_filled c.args.count (c.args.left.now - c.fill_item.new.left) c.args.left.now c.fill_item.new.left c.take_items.new.left (item_of c.args.of.now c.args.choices.now c.args.node.now)
      c.if-count-eq0.false refl c.in-Ok.ensures.0 c.in-Ok-take_items.ensures.0,
  c.in_ok-copies-in-Ok-take_items.ensures ∙ ap (λ x. repeated c.args.count x) c.in-Ok.ensures.1,
)

pub fill_value-returns-then-is_list : goal.fill_value-returns-then-is_list
fill_value-returns-then-is_list t c = rw (list_is c.args.of.now c.args.choices.now c.args.node.now (sym c.is_list.ensures ∙ c.if-is_list.true)) c.fill_list.ensures
