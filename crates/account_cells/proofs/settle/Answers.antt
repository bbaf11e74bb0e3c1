use Rattle.std.proofs.Common.{refl, sym, ap, ◌∙◌}
use Rattle.crossbeam_utils.specs.Seq.{cell_view}
use Rattle.account_core.specs.declared.Account.{Account}
use Rattle.account_core.specs.Machine.{settlement, done}
use Rattle.account_cells.proofs.Loops.{looks_none, looks_again, calls_after_looks}
use Rattle.account_cells.proofs.settle.Goals as goal

pub loop-init : goal.loop-init
loop-init g c = (tt, tt, (refl, refl), looks_none (cell_view c.args.pass.now) c.requires.ready.2)

pub returns-then-window-account-clause-call : goal.returns-then-window-account-clause-call
returns-then-window-account-clause-call g c =
    let late = c.look_or_settle-found.ensures.seen.2 (λ is. c.if-window-account.true (is ∙ ap (λ (a : Account). a.window) (sym c.account_in-account.ensures))) in (
      c.look_or_settle-found.result,
      calls_after_looks (cell_view c.args.pass.now) (cell_view c.loop.pass) (cell_view c.look_or_settle-found.new.pass) c.args.number
          (settlement c.args.ticket.seq c.args.ticket.window c.args.ticket.bound c.args.measured) done c.look_or_settle-found.result c.loop.invariant.3 late,
    )

pub returns-then-try_settle-clause-call : goal.returns-then-try_settle-clause-call
returns-then-try_settle-clause-call g c =
    let looked = (c.look_or_settle-found.ensures.seen.1 (c.if-window-account.false ∙ ap (λ (a : Account). a.window) c.account_in-account.ensures)).0 in
    let looks = looks_again (cell_view c.args.pass.now) (cell_view c.loop.pass) (cell_view c.look_or_settle-found.new.pass) c.look_or_settle-found.result c.loop.invariant.3 looked in (
      c.look_or_settle-found.result,
      calls_after_looks (cell_view c.args.pass.now) (cell_view c.look_or_settle-found.new.pass) (cell_view c.try_settle.new.pass) c.args.number
          (settlement c.args.ticket.seq c.args.ticket.window c.args.ticket.bound c.args.measured) done c.look_or_settle-found.result looks (c.try_settle.ensures.won c.if-try_settle.true),
    )

pub loop-preserved : goal.loop-preserved
loop-preserved g c =
    let before = c.loop.invariant.2 in
    let look = c.look_or_settle-found.ensures.cell in
    let try = c.try_settle.ensures.cell in
    let looked = (c.look_or_settle-found.ensures.seen.1 (c.if-window-account.false ∙ ap (λ (a : Account). a.window) c.account_in-account.ensures)).0 in
    let looks = looks_again (cell_view c.args.pass.now) (cell_view c.loop.pass) (cell_view c.look_or_settle-found.new.pass) c.look_or_settle-found.result c.loop.invariant.3 looked in
    let lost = c.try_settle.ensures.lost c.if-try_settle.false in (
      tt,
      tt,
      (try.0 ∙ (look.0 ∙ before.0), try.1 ∙ (look.1 ∙ before.1)),
      looks_again (cell_view c.args.pass.now) (cell_view c.look_or_settle-found.new.pass) (cell_view c.try_settle.new.pass) lost.0 looks lost.1,
    )
