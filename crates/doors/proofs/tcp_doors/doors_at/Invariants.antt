-- Each door that was made is new, and there is room for the others.
use Rattle.std.proofs.Common.{◌≡◌, ◌≤◌, All, vec_len, vec_capacity}
use Rattle.doors.specs.Kept.{IsMadeBy}
use Rattle.doors.proofs.tcp_doors.doors_at.Given as goal

abbrev pub invariant-doors : goal.invariant-doors
invariant-doors g l =
    (vec_len l.doors ≡ l.counter)
    × All (IsMadeBy l.words) l.doors.items
    × (l.words.workers ≤ vec_capacity l.doors)
