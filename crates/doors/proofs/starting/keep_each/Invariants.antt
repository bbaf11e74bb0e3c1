-- What was kept, and what is to be kept of the doors that are left, make what is to be kept of all.
use Rattle.std.proofs.Common.{◌≡◌, ◌+◌, ◌≤◌, ◌++◌, length, map, vec_len, vec_capacity}
use Rattle.doors.specs.Kept.{stopped_door}
use Rattle.doors.proofs.starting.keep_each.Given as goal

abbrev pub invariant-doors : goal.invariant-doors
invariant-doors g l =
    (l.stopped.items ++ map (stopped_door l.connections) l.doors.items
    ≡ l.initial.stopped.items ++ map (stopped_door l.connections) l.initial.doors.items)
    × (vec_len l.stopped + length l.doors.items ≡ vec_len l.initial.stopped + length l.initial.doors.items)
    × (vec_len l.stopped + length l.doors.items ≤ vec_capacity l.stopped)
    × (vec_capacity l.stopped ≡ vec_capacity l.initial.stopped)

abbrev pub decreases-doors : goal.decreases-doors
decreases-doors g l = length l.doors.items
