use Rattle.std.proofs.Common.{◌≡◌, ◌+◌, ◌-◌, length}
use Rattle.plan_model.specs.SelectedFields.{Setting}
use Rattle.merged_selections.specs.NodeTests.{AreKept}
use Rattle.merged_selections.proofs.calls.Calls.point.Given as goal

abbrev pub invariant-loop-self : goal.invariant-loop-self
invariant-loop-self l = (l.self.made.items ≡ l.fn.self.made.items) × ((e : Setting) → AreKept e l.fn.self → AreKept e l.self)

abbrev pub decreases-loop-self : goal.decreases-loop-self
decreases-loop-self l = l.place + 1 - length l.self.equal.items
