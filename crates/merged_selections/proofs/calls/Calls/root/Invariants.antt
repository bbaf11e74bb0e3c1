use Rattle.std.proofs.Common.{◌≡◌, ◌-◌}
use Rattle.plan_model.specs.SelectedFields.{Setting}
use Rattle.merged_selections.specs.NodeTests.{AreKept, values_at}
use Rattle.merged_selections.proofs.calls.Calls.root.Given as goal

abbrev pub invariant-loop-hops : goal.invariant-loop-hops
invariant-loop-hops l = (e : Setting) → AreKept e l.self → values_at e l.self.made.items l.root ≡ values_at e l.self.made.items l.at

abbrev pub decreases-loop-hops : goal.decreases-loop-hops
decreases-loop-hops l = 64 - l.hops
