use Rattle.std.proofs.Common.{map, List, subst}
use Rattle.collected_fields.specs.declared.tables.Entry.{Entry}
use Rattle.collected_fields.specs.declared.tables.SelectionList.{SelectionList}
use Rattle.collected_fields.specs.Prepared.{list_data, entry_data}
use Rattle.collected_fields.specs.Kinds.{AddsLists, AddsEntries}
use Rattle.collected_fields.proofs.KindLaws.{covers_all}
use Rattle.collected_fields.proofs.kinds.conditions_of.Goals as goal

pub returns : goal.returns
returns c = covers_all c.args.tables.now c.new-conditions.result.items c.add_lists.new.conditions.items c.add_entries.new.conditions.items
    (subst (λ (ls : List SelectionList). AddsLists c.new-conditions.result.items c.add_lists.new.conditions.items (map list_data ls)) c.as_slice-lists.ensures.value c.in_ok-add_lists.ensures)
    (subst (λ (es : List Entry). AddsEntries c.add_lists.new.conditions.items c.add_entries.new.conditions.items (map entry_data es)) c.as_slice-entries.ensures.value c.in_ok-add_entries.ensures)
