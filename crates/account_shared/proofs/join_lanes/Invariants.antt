use Rattle.std.proofs.Common.{◌≡◌, ◌≤◌, length, map}
use Rattle.account_shared.specs.Inside.{lane_view}
use Rattle.account_shared.proofs.Walks.{WalkedTo}
use Rattle.account_shared.proofs.Joining.{IsJoined, Anyhow}
use Rattle.account_shared.proofs.join_lanes.Given as goal

abbrev pub invariant-loop-at : goal.invariant-loop-at
invariant-loop-at g l =
    WalkedTo (IsJoined (map lane_view l.fn.others.items)) l.at l.fn.lanes.items l.lanes.items × WalkedTo Anyhow l.at l.fn.others.items l.others.items
    × (l.at-end ≡ length l.fn.lanes.items) × (l.at ≤ l.at-end)
