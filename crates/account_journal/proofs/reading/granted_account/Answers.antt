use Rattle.std.proofs.Common.{◌≡◌, ℕ, arith, ap, subst}
use Rattle.account_core.specs.declared.Ticket.{Ticket}
use Rattle.account_core.specs.Machine.{entry, reservation, granted}
use Rattle.account_core.specs.Numbers.{StepsTo}
use Rattle.account_journal.proofs.reading.granted_account.Goals as goal

pub returns-in-Granted-clause-step : goal.returns-in-Granted-clause-step
returns-in-Granted-clause-step c s stands =
    let step = c.in-Granted.ensures.step s c.args.client stands in
    let w : c.in-Granted.ticket.window ≡ c.args.window = omega (arith, ap (λ (t : Ticket). t.window) c.in-Granted.ensures.ticket, c.if-window-account.false) in
    subst (λ (x : ℕ). StepsTo c.args.limit s (entry c.args.client c.args.number (reservation c.args.window c.args.bound) (granted x)) c.reserve.new.self) w step
