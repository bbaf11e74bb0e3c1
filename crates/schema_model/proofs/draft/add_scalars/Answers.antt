use Rattle.std.proofs.Common.{map, length, ap, ◌∙◌}
use Rattle.schema_model.specs.DraftViews.{type_view}
use Rattle.schema_model.proofs.DraftSteps.{ended, begun}
use Rattle.schema_model.proofs.draft.add_scalars.Goals as goal

pub returns : goal.returns
returns c = ended (map type_view c.loop-at.drafts.items) c.args.types.now c.loop-at.at c.loop-at-test.false ∙ (c.loop-at.invariant ∙ begun c.args.drafts.now.items c.args.types.now c.count_of-defined.result (c.count_of-defined.ensures ∙ ap length c.deref.ensures.value))
