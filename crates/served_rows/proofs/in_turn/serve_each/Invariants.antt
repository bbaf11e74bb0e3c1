use Rattle.std.proofs.Common.{◌≡◌}
use Rattle.account_shared.specs.Views.{Belongs, IsIdle}
use Rattle.served_rows.proofs.in_turn.serve_each.Given as goal

abbrev pub invariant-plans : goal.invariant-plans
invariant-plans g l = Belongs l.passes l.gate.accounts × IsIdle l.passes × (l.passes.label ≡ l.initial.passes.label)
