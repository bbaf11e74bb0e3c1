use Rattle.collected_fields.specs.Views.{setting_of_planning}
use Rattle.merged_selections.proofs.ComparedCalls.{still_within, grows_more, goes_on, ends}
use Rattle.merged_selections.proofs.arguments.any_differs.Goals as goal

pub returns-in-Err-clause-compares : goal.returns-in-Err-clause-compares
returns-in-Err-clause-compares c = λ kept. ends (setting_of_planning c.args.planning.now) c.args.of.number c.args.others.now c.loop-other.other-index c.other-item.result c.loop-other-test.true c.other-item.is
    c.args.calls.now.made.items c.loop-other.calls.made.items c.args.at c.requires.there c.loop-other.invariant.grows c.loop-other.differ (c.loop-other.invariant.compared kept)
    c.in-Err.fault (c.in-Err.ensures.compares (c.loop-other.invariant.kept kept))

pub loop-other-preserved : goal.loop-other-preserved
loop-other-preserved c = record {
  there = still_within c.loop-other.calls.made.items c.differ_with.new.calls.made.items c.args.at c.loop-other.invariant.there c.in-Ok.ensures.grows;
  grows = grows_more c.args.calls.now.made.items c.loop-other.calls.made.items c.differ_with.new.calls.made.items c.loop-other.invariant.grows c.in-Ok.ensures.grows;
  kept = λ kept. c.in-Ok.ensures.kept (c.loop-other.invariant.kept kept);
  compared = λ kept. goes_on (setting_of_planning c.args.planning.now) c.args.of.number c.args.others.now c.loop-other.other-index c.other-item.result c.loop-other-test.true c.other-item.is
      c.args.calls.now.made.items c.loop-other.calls.made.items c.args.at c.requires.there c.loop-other.invariant.grows c.loop-other.differ (c.loop-other.invariant.compared kept)
      c.in-Ok.more (c.in-Ok.ensures.compares (c.loop-other.invariant.kept kept));
}
