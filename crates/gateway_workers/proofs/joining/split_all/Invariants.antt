use Rattle.std.proofs.Common.{◌≡◌, ◌-◌, ◌≤◌, length}
use Rattle.std.specs.Prelude.{All, vec_capacity}
use Rattle.account_shared.specs.Views.{Belongs}
use Rattle.gateway_workers.specs.Joins.{SplitsTo}
use Rattle.gateway_workers.proofs.joining.split_all.Given as goal

abbrev pub invariant-splits : goal.invariant-splits
invariant-splits l =
    SplitsTo l.initial.passes l.split.items l.passes × Belongs l.passes l.gate.accounts × All (λ p. Belongs p l.gate.accounts) l.split.items
    × (l.passes.label.name ≡ 0) × (vec_capacity l.split ≡ vec_capacity l.initial.split) × (length l.split.items ≤ l.count)

abbrev pub decreases-splits : goal.decreases-splits
decreases-splits l = l.count - length l.split.items
