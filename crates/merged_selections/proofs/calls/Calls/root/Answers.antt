use Rattle.std.proofs.Common.{ap, ◌∙◌}
use Rattle.merged_selections.specs.NodeTests.{values_at}
use Rattle.merged_selections.proofs.calls.Calls.root.Goals as goal

pub loop-hops-preserved : goal.loop-hops-preserved
loop-hops-preserved c = λ e kept. ap (values_at e c.args.self.now.made.items) c.equal_to-next.ensures ∙ (kept.1.values c.loop-hops.root ∙ c.loop-hops.invariant e kept)
