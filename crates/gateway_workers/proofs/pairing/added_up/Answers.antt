use Rattle.std.proofs.Common.{◌≡◌, ◌≤◌, arith, sym, subst, get_or}
use Rattle.gateway_workers.specs.declared.worker.Worker.{Worker}
use Rattle.gateway_workers.proofs.Sums.{connections_step, answers_step, faults_step, sums_end}
use Rattle.gateway_workers.proofs.pairing.added_up.Goals as goal

pub workers-preserved : goal.workers-preserved
workers-preserved g c =
    let i = c.workers.invariant in
    let n = connections_step c.args.workers.now c.workers.worker-index c.worker-item.result c.workers-test.true c.worker-item.is in
    let x = answers_step c.args.workers.now c.workers.worker-index c.worker-item.result c.workers-test.true c.worker-item.is in
    let f = faults_step c.args.workers.now c.workers.worker-index c.worker-item.result c.workers-test.true c.worker-item.is in
    let counted = c.requires.counted c.workers.worker-index c.worker-item.result c.workers-test.true in
    let here : get_or c.args.workers.now c.workers.worker-index c.worker-item.result ≡ c.worker-item.result = sym c.worker-item.is in
    let few : c.worker-item.result.connections ≤ 4294967295 = subst (λ (w : Worker _). w.connections ≤ 4294967295) here counted.0 in
    let most : c.worker-item.result.replies ≤ 4294967295000 = subst (λ (w : Worker _). w.replies ≤ 4294967295000) here counted.1 in
    (omega (arith, i.0, n, c.from.ensures), omega (arith, i.1, x), omega (arith, i.2, f, c.one_if.ensures.one), omega (arith, i.3, few, c.from.ensures), omega (arith, i.4, most), omega (arith, i.5, c.one_if.ensures.most))

pub returns-clause-connections : goal.returns-clause-connections
returns-clause-connections g c = omega (arith, c.workers.invariant.0, (sums_end c.args.workers.now c.workers.worker-index c.workers-test.false).0)

pub returns-clause-exchanges : goal.returns-clause-exchanges
returns-clause-exchanges g c = omega (arith, c.workers.invariant.1, (sums_end c.args.workers.now c.workers.worker-index c.workers-test.false).1)

pub returns-clause-faults : goal.returns-clause-faults
returns-clause-faults g c = omega (arith, c.workers.invariant.2, (sums_end c.args.workers.now c.workers.worker-index c.workers-test.false).2)
