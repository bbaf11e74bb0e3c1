use Rattle.std.proofs.Common.{◌≡◌, ◌++◌, ◌+◌, ◌≤◌, length}
use Rattle.std.specs.Prelude.{vec_capacity}
use Rattle.gateway_workers.specs.Workers.{doors_of, passes_of}
use Rattle.gateway_workers.proofs.pairing.part.Given as goal

abbrev pub invariant-parts : goal.invariant-parts
invariant-parts g l =
    (l.doors.items ++ doors_of l.workers.items ≡ doors_of l.initial.workers.items) × (l.split.items ++ passes_of l.workers.items ≡ passes_of l.initial.workers.items)
    × (length l.doors.items + length l.workers.items ≤ vec_capacity l.doors) × (length l.split.items + length l.workers.items ≤ vec_capacity l.split)

abbrev pub decreases-parts : goal.decreases-parts
decreases-parts g l = length l.workers.items
