use Rattle.std.proofs.Common.{◌≡◌, ◌||◌, ◌<◌, drop, length, map}
use Rattle.std.specs.Prelude.{IfSome}
use Rattle.std.specs.List.{slice_get}
use Rattle.collected_fields.specs.Views.{setting_of_planning, collected_field}
use Rattle.merged_selections.specs.NodeTests.{args_in, first_refused, differ_from, AreKept, Grows}
use Rattle.merged_selections.proofs.arguments.any_differs.Given as goal

abbrev pub invariant-loop-other : goal.invariant-loop-other
invariant-loop-other l = record {
  there : l.at < length l.calls.made.items;
  grows : Grows l.initial.calls.made.items l.calls.made.items;
  kept : AreKept (setting_of_planning l.planning) l.initial.calls → AreKept (setting_of_planning l.planning) l.calls;
  compared : AreKept (setting_of_planning l.planning) l.initial.calls → IfSome (slice_get l.initial.calls.made.items l.at) (λ call.
      (first_refused (setting_of_planning l.planning) l.of.number (map collected_field (drop l.other-index l.others)) ≡ first_refused (setting_of_planning l.planning) l.of.number (map collected_field l.others))
      × (l.differ || differ_from (setting_of_planning l.planning) l.of.number (args_in (setting_of_planning l.planning) call) (map collected_field (drop l.other-index l.others)) ≡ differ_from (setting_of_planning l.planning) l.of.number (args_in (setting_of_planning l.planning) call) (map collected_field l.others)));
}
