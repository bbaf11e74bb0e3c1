use Rattle.std.proofs.Common.{◌≤◌, ◌∙◌, ◌++◌, ◌∷◌, [], length, arith, refl, inl, inr, subst}
use Rattle.outside.specs.Faults.{Rose}
use Rattle.gateway_journal.proofs.ServedDoors.{did_none, did_then}
use Rattle.gateway_journal.proofs.working.work.Goals as goal

pub turns-init : goal.turns-init
turns-init g c = (([], did_none _ _ c.args.gate.now c.args.worker.now c.requires.waits), omega (arith, c.requires.waits.none.0), c.requires.waits.none.2, refl)

pub turns-preserved : goal.turns-preserved
turns-preserved g c =
    let i = c.turns.invariant in
    let one = c.in-One.ensures in (
      (i.0.0 ++ one.0.0 ∷ [], did_then _ _ c.args.gate.now c.args.worker.now c.turns.worker c.serve_one.new.worker i.0.0 (one.0.0 ∷ []) i.0.1 one.0.1),
      omega (arith, one.0.1.connections, c.turns-test.true),
      one.2 ∙ i.2,
      one.1 ∙ i.3,
    )

pub returns-in-Over : goal.returns-in-Over
returns-in-Over g c =
    let i = c.turns.invariant in
    let over = c.in-Over.ensures in
    let did = did_then _ _ c.args.gate.now c.args.worker.now c.turns.worker c.serve_one.new.worker i.0.0 [] i.0.1 over.0 in
    let few : length (i.0.0 ++ []) ≤ c.args.most = omega (arith, did.connections, over.0.connections, i.1, c.requires.waits.none.0) in
    (i.0.0 ++ [], did, few, inl (over.2 ∙ i.2, over.1 ∙ i.3, omega (arith, did.stretch.to_come, over.3, few)))

pub returns-in-Failed : goal.returns-in-Failed
returns-in-Failed g c =
    let i = c.turns.invariant in
    let failed = c.in-Failed.ensures in
    let did = did_then _ _ c.args.gate.now c.args.worker.now c.turns.worker c.serve_one.new.worker i.0.0 [] i.0.1 failed.0 in (
      i.0.0 ++ [],
      did,
      omega (arith, did.connections, failed.0.connections, i.1, c.requires.waits.none.0),
      inr (failed.2, subst (λ n. Rose n (g.D.Door.faults c.serve_one.new.worker.door)) i.3 failed.1),
    )

pub returns-in-Lost : goal.returns-in-Lost
returns-in-Lost g c =
    let i = c.turns.invariant in
    let lost = c.in-Lost.ensures in
    (c.turns.worker, i.0.0, i.0.1, omega (arith, i.0.1.connections, c.turns-test.true, c.requires.waits.none.0), lost.0, lost.1 ∙ i.3, lost.2 ∙ i.2)
