use Rattle.std.proofs.Common.{ℕ, ◌<◌, subst, length, get_or}
use Rattle.account_cells.specs.Views.{no_view}
use Rattle.account_shared.specs.Views.{PassesView, IsKept}
use Rattle.account_shared.proofs.Lanes.{all_kept}
use Rattle.account_shared.proofs.Passes.made.Goals as goal

pub returns-clause-kept : goal.returns-clause-kept
returns-clause-kept c =
    subst (λ (p : PassesView). (k : ℕ) → k < length p.clients → IsKept (get_or p.clients k no_view)) c.self.view_is (all_kept c.self.inside.made c.self.inside.lanes.items c.self.invariant)
