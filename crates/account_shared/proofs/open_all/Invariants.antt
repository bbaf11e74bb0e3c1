use Rattle.std.proofs.Common.{◌≡◌, map, take}
use Rattle.account_cells.specs.Views.{first_view}
use Rattle.account_shared.specs.Inside.{lane_cell, lane_view, slot_cell, slot_limit}
use Rattle.account_shared.proofs.open_all.Given as goal

abbrev pub invariant-loop-limit : goal.invariant-loop-limit
invariant-loop-limit l =
    (map slot_limit l.slots.items ≡ take l.limit-index l.limits) × (map lane_cell l.lanes.items ≡ map slot_cell l.slots.items)
    × (map lane_view l.lanes.items ≡ map first_view (take l.limit-index l.limits))
