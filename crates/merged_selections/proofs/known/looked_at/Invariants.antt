use Rattle.std.proofs.Common.{◌≡◌, length}
use Rattle.collected_fields.specs.Views.{setting_of_planning}
use Rattle.merged_selections.specs.NodeParts.{handed_data}
use Rattle.merged_selections.specs.NodeTests.{AreKept}
use Rattle.merged_selections.specs.Again.{AreLooked}
use Rattle.merged_selections.proofs.known.looked_at.Given as goal

abbrev pub invariant-loop-group : goal.invariant-loop-group
invariant-loop-group l = record {
  kept : AreKept (setting_of_planning l.planning) l.initial.calls → AreKept (setting_of_planning l.planning) l.calls;
  many : l.group-index ≡ length l.found.items;
  looked : AreKept (setting_of_planning l.planning) l.initial.calls → AreLooked (setting_of_planning l.planning) l.of.number (handed_data l.handed) l.groups l.found.items;
}
