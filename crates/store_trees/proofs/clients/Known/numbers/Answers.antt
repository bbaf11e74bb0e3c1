use Rattle.std.proofs.Common.{◌<◌, ◌≤◌, ◌+◌, ◌^◌, length, arith}
use Rattle.std.proofs.lemmas.Result.{err_from_is_err_and}
use Rattle.store_trees.proofs.Refusals.{fails_on}
use Rattle.store_trees.proofs.Numberings.{numbered_on, grown_more, grows_on, next_on}
use Rattle.store_trees.proofs.clients.Known.numbers.Goals as goal

pub sums-preserved : goal.sums-preserved
sums-preserved c =
    let inv = c.sums.invariant in
    let one = c.in_ok-number.ensures in
    let old = c.sums.self.clients.items in
    let new = c.number.new.self.clients.items in (
      one.known,
      one.index,
      numbered_on old new c.args.sums.now c.sums.sum-index _ c.sums.numbers.items c.push.new.self.items _ c.sums-test.true inv.2
          (grown_more old new c.sums.self.next c.number.new.self.next _ one.grows) one.number c.in_ok-push.ensures.items,
      grows_on c.args.self.now.clients.items old new c.args.self.now.next c.sums.self.next c.number.new.self.next c.args.sums.now c.sums.sum-index _ c.sums-test.true inv.3 one.grows,
      next_on old new c.args.self.now.next c.sums.self.next c.number.new.self.next c.sums.sum-index _ inv.4 one.grows,
    )

pub returns-in_err-number-clause-refused : goal.returns-in_err-number-clause-refused
returns-in_err-number-clause-refused c =
    let p = err_from_is_err_and c.from_residual.result c.from_residual.ensures.1 in
    rw (p.1, p.2)
    (fails_on (c.sums.self.next < 2 ^ 32) (c.args.self.now.next + length c.args.sums.now ≤ 2 ^ 32) ⊥ ⊥ (λ room. omega (arith, room, c.sums.invariant.4, c.sums-test.true)) (λ f. f) c.in_err-number.field-0.0
    c.in_err-number.ensures.refused)
