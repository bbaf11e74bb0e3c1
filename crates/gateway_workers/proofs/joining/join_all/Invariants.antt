use Rattle.std.proofs.Common.{◌≡◌}
use Rattle.std.specs.Prelude.{All}
use Rattle.account_shared.specs.Views.{PassesView, Belongs, IsIdle}
use Rattle.gateway_workers.specs.Joins.{JoinsAll}
use Rattle.gateway_workers.proofs.joining.join_all.Given as goal

abbrev pub invariant-joins : goal.invariant-joins
invariant-joins g l =
    ((now : PassesView) → JoinsAll l.passes l.split.items now → JoinsAll l.initial.passes l.initial.split.items now)
    × Belongs l.passes l.gate.accounts × (l.passes.label.name ≡ 0)
    × All (λ p. Belongs p l.gate.accounts) l.split.items × All IsIdle l.split.items

abbrev pub decreases-joins : goal.decreases-joins
decreases-joins g l = goal.left-joins g l
