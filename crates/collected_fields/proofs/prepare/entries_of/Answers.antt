use Rattle.std.proofs.Common.{◌≡◌, ◌<◌, map, subst, length, get_or}
use Rattle.collected_fields.specs.Drafts.{source_setting}
use Rattle.collected_fields.specs.Prepared.{list_data}
use Rattle.collected_fields.proofs.PrepareLaws.{entries_next}
use Rattle.collected_fields.proofs.prepare.entries_of.Goals as goal

pub loop-reached-preserved : goal.loop-reached-preserved
loop-reached-preserved c =
    let same = c.items-reached-items.ensures in
    let next = entries_next (source_setting c.args.source.now) c.args.source.now.fragments.now.items.items c.loop-reached.reached-index c.reached-item.result (map list_data c.loop-reached.lists.items) (map list_data c.add_entry.new.lists.items) c.loop-reached.entries.items c.push.new.self.items c.in_ok-entry.entry
    (subst (λ xs. c.loop-reached.reached-index < length xs) same c.loop-reached-test.true) (subst (λ xs. c.reached-item.result ≡ get_or xs c.loop-reached.reached-index c.reached-item.result) same c.reached-item.is) c.in_ok-push.ensures.items c.loop-reached.invariant.lists c.loop-reached.invariant.entered c.in_ok-entry.ensures in
    record { lists = next.0; entered = next.1 }
