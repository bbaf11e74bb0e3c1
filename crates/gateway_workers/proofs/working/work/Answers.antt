use Rattle.std.proofs.Common.{◌∙◌, ◌++◌, ◌∷◌, [], arith, refl}
use Rattle.gateway_connections.specs.Exchanges.{service_of}
use Rattle.gateway_workers.proofs.Turns.{did_none, did_then}
use Rattle.gateway_workers.proofs.working.work.Goals as goal

pub turns-init : goal.turns-init
turns-init g c =
    (([], did_none _ (service_of c.args.gate.now) c.args.gate.now.accounts c.args.worker.now c.requires.waits), omega (arith, c.requires.waits.none.0), c.requires.waits.none.2, refl)

pub turns-preserved : goal.turns-preserved
turns-preserved g c =
    let i = c.turns.invariant in
    let one = c.in-One.ensures in (
      (i.0.0 ++ one.0.0 ∷ [], did_then _ (service_of c.args.gate.now) refl c.args.gate.now.accounts c.args.worker.now c.turns.worker c.serve_one.new.worker i.0.0 (one.0.0 ∷ []) i.0.1 one.0.1),
      omega (arith, one.0.1.connections, c.turns-test.true),
      one.2 ∙ i.2,
      one.1 ∙ i.3,
    )
