use Rattle.std.proofs.Common.{◌≡◌, ◌++◌, ◌+◌, ◌≤◌, length}
use Rattle.std.specs.Prelude.{All, vec_capacity}
use Rattle.gateway_workers.specs.Workers.{doors_of, passes_of, IsNewWorker}
use Rattle.gateway_workers.proofs.pairing.pair.Given as goal

abbrev pub invariant-pairs : goal.invariant-pairs
invariant-pairs g l =
    (doors_of l.workers.items ++ l.doors.items ≡ l.initial.doors.items) × (passes_of l.workers.items ++ l.split.items ≡ l.initial.split.items)
    × (length l.doors.items ≡ length l.split.items) × (length l.workers.items + length l.doors.items ≤ vec_capacity l.workers)
    × All IsNewWorker l.workers.items
    × (vec_capacity l.doors ≡ vec_capacity l.initial.doors) × (vec_capacity l.split ≡ vec_capacity l.initial.split)

abbrev pub decreases-pairs : goal.decreases-pairs
decreases-pairs g l = length l.doors.items
