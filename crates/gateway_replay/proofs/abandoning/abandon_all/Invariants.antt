use Rattle.std.proofs.Common.{◌≤◌, length}
use Rattle.std.specs.Vec.Iter.{into_iter_items, into_iter_len}
use Rattle.account_shared.specs.Views.{Belongs}
use Rattle.gateway_replay.specs.Stretches.{requests_of, Abandons}
use Rattle.gateway_replay.proofs.abandoning.abandon_all.Given as goal

abbrev pub invariant-loop-open : goal.invariant-loop-open
invariant-loop-open g l = record {
  belong : Belongs l.passes l.gate.accounts;
  few : length l.fn.opens.items ≤ 10000;
  so_far : Abandons l.fn.passes l.passes (requests_of l.fn.opens.items) (requests_of (into_iter_items l.rest)) l.fn.report l.report l.fn.told l.told;
}

abbrev pub decreases-loop-open : goal.decreases-loop-open
decreases-loop-open g l = into_iter_len l.rest
