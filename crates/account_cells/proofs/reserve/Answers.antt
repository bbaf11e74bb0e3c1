use Rattle.std.proofs.Common.{refl, ◌∙◌}
use Rattle.std.proofs.lemmas.Bool.{not-true, not-false}
use Rattle.crossbeam_utils.specs.Seq.{cell_view}
use Rattle.account_core.specs.Machine.{reservation, granted}
use Rattle.account_cells.proofs.Loops.{looks_none, looks_again, calls_after_looks, look_before_grant, look_refuses}
use Rattle.account_cells.proofs.reserve.Goals as goal

pub loop-init : goal.loop-init
loop-init g c = (tt, tt, (refl, refl), looks_none (cell_view c.args.pass.now) c.requires.ready.2)

pub returns-then-not-decision-clause-call : goal.returns-then-not-decision-clause-call
returns-then-not-decision-clause-call g c =
    let refused = c.decide-decision.ensures.1 (not-true c.decide-decision.result.granted c.if-not-decision.true) in (
      c.look_or_refuse-found.result,
      look_refuses c.args.limit c.args.number c.args.window c.args.bound c.decide-decision.result.left c.look_or_refuse-found.result
          (cell_view c.args.pass.now) (cell_view c.loop.pass) (cell_view c.look_or_refuse-found.new.pass) c.requires.ready c.loop.invariant.3 c.look_or_refuse-found.ensures.seen refused,
    )

pub returns-then-try_grant-clause-call : goal.returns-then-try_grant-clause-call
returns-then-try_grant-clause-call g c =
    let covered = (c.decide-decision.ensures.0 (not-false c.decide-decision.result.granted c.if-not-decision.false)).0 in
    let looks = look_before_grant c.args.limit c.args.number c.args.window c.decide-decision.result.at c.args.bound c.look_or_refuse-found.result
    (cell_view c.args.pass.now) (cell_view c.loop.pass) (cell_view c.look_or_refuse-found.new.pass) c.requires.ready c.loop.invariant.3 c.look_or_refuse-found.ensures.seen covered in (
      c.look_or_refuse-found.result,
      calls_after_looks (cell_view c.args.pass.now) (cell_view c.look_or_refuse-found.new.pass) (cell_view c.try_grant.new.pass) c.args.number
          (reservation c.args.window c.args.bound) (granted c.decide-decision.result.at) c.look_or_refuse-found.result looks (c.try_grant.ensures.won c.if-try_grant.true),
    )

pub loop-preserved : goal.loop-preserved
loop-preserved g c =
    let before = c.loop.invariant.2 in
    let look = c.look_or_refuse-found.ensures.cell in
    let try = c.try_grant.ensures.cell in
    let covered = (c.decide-decision.ensures.0 (not-false c.decide-decision.result.granted c.if-not-decision.false)).0 in
    let looks = look_before_grant c.args.limit c.args.number c.args.window c.decide-decision.result.at c.args.bound c.look_or_refuse-found.result
    (cell_view c.args.pass.now) (cell_view c.loop.pass) (cell_view c.look_or_refuse-found.new.pass) c.requires.ready c.loop.invariant.3 c.look_or_refuse-found.ensures.seen covered in
    let lost = c.try_grant.ensures.lost c.if-try_grant.false in (
      tt,
      tt,
      (try.0 ∙ (look.0 ∙ before.0), try.1 ∙ (look.1 ∙ before.1)),
      looks_again (cell_view c.args.pass.now) (cell_view c.look_or_refuse-found.new.pass) (cell_view c.try_grant.new.pass) lost.0 looks lost.1,
    )
