use Rattle.std.proofs.Common.{◌≡◌, ◌+◌, ◌*◌, ◌≤◌}
use Rattle.std.specs.Prelude.{drop}
use Rattle.gateway_workers.specs.Workers.{connections_in, answers_in, faults_in}
use Rattle.gateway_workers.proofs.pairing.added_up.Given as goal

abbrev pub invariant-workers : goal.invariant-workers
invariant-workers g l =
    (l.sum.connections + connections_in (drop l.worker-index l.workers) ≡ connections_in l.workers)
    × (l.sum.exchanges + answers_in (drop l.worker-index l.workers) ≡ answers_in l.workers)
    × (l.sum.faults + faults_in (drop l.worker-index l.workers) ≡ faults_in l.workers)
    × (l.sum.connections ≤ 4294967295 * l.worker-index) × (l.sum.exchanges ≤ 4294967295000 * l.worker-index) × (l.sum.faults ≤ l.worker-index)
