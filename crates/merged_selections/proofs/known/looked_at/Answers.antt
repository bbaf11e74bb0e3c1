use Rattle.std.proofs.Common.{ℕ, ◌+◌, ◌∷◌, [], length, length-append, sym, ap, ◌∙◌}
use Rattle.collected_fields.specs.Views.{setting_of_planning}
use Rattle.merged_selections.specs.NodeParts.{handed_data}
use Rattle.merged_selections.proofs.LookedNodes.{looked_more}
use Rattle.merged_selections.proofs.known.looked_at.Goals as goal

pub loop-group-preserved : goal.loop-group-preserved
loop-group-preserved c = record {
  kept = λ kept. c.looked_of.ensures.kept (c.loop-group.invariant.kept kept);
  many = ap (λ (n : ℕ). n + 1) c.loop-group.invariant.many ∙ sym (ap length c.in_ok-push-in-Some.ensures.items ∙ length-append c.loop-group.found.items (c.in-Some.looked ∷ []));
  looked = λ kept. looked_more (setting_of_planning c.args.planning.now) c.args.of.number (handed_data c.args.handed) c.args.groups.now c.loop-group.found.items c.push.new.self.items c.loop-group.group-index c.group-item.result c.in-Some.looked c.in_ok-push-in-Some.ensures.items c.loop-group.invariant.many c.loop-group-test.true c.group-item.is (c.loop-group.invariant.looked kept) (c.in-Some.ensures.looked (c.loop-group.invariant.kept kept));
}

pub returns-in-None-clause-kept : goal.returns-in-None-clause-kept
returns-in-None-clause-kept c = λ kept. c.looked_of.ensures.kept (c.loop-group.invariant.kept kept)

pub returns-in-None-clause-looked : goal.returns-in-None-clause-looked
returns-in-None-clause-looked c = λ kept. c.loop-group.invariant.looked kept
