use Rattle.std.proofs.Common.{[], map, take}
use Rattle.collected_fields.specs.Drafts.{source_setting}
use Rattle.collected_fields.specs.Prepared.{list_data, entry_data, reached_fragment, Grows, AreEntries}
use Rattle.collected_fields.proofs.prepare.entries_of.Given as goal

abbrev pub invariant-loop-reached : goal.invariant-loop-reached
invariant-loop-reached l = record {
  lists : Grows (source_setting l.source) [] (map list_data l.lists.items);
  entered : AreEntries (source_setting l.source).schema (map list_data l.lists.items) (map entry_data l.entries.items) (map reached_fragment (take l.reached-index l.source.fragments.now.items.items));
}
