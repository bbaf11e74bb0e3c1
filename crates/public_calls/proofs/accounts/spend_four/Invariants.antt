use Rattle.std.proofs.Common.{◌≡◌, ◌≤◌, ◌*◌}
use Rattle.account_shared.specs.Views.{Belongs, IsIdle}
use Rattle.public_calls.proofs.accounts.spend_four.Given as goal

abbrev pub invariant-loop-at : goal.invariant-loop-at
invariant-loop-at g l =
    Belongs l.passes l.fn.accounts × (l.passes.label ≡ l.fn.passes.label) × IsIdle l.passes × (l.passes.made ≤ 2 * l.at)
