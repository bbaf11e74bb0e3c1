use Rattle.std.proofs.Common.{◌≡◌, ◌≤◌, length}
use Rattle.std.specs.Prelude.{vec_len, vec_capacity}
use Rattle.account_shared.proofs.Joining.{ClosedTo}
use Rattle.account_shared.proofs.close_lanes.Given as goal

abbrev pub invariant-loop-at : goal.invariant-loop-at
invariant-loop-at g l =
    ClosedTo l.at l.fn.lanes.items l.lanes.items l.into.items × (length l.fn.lanes.items ≤ vec_capacity l.into) × (vec_len l.into ≡ l.at) × (l.at-end ≡ length l.fn.lanes.items) × (l.at ≤ l.at-end)
