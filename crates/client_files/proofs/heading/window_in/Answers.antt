use Rattle.std.proofs.Common.{arith, sym, ◌∙◌, drop}
use Rattle.client_files.proofs.Numbers.{one_window}
use Rattle.client_files.proofs.heading.window_in.Goals as goal

pub returns-else-seconds-le-WINDOW_LIMIT-clause-none : goal.returns-else-seconds-le-WINDOW_LIMIT-clause-none
returns-else-seconds-le-WINDOW_LIMIT-clause-none c = λ seconds given.
    let h = c.in_ok-strip_prefix.ensures.cases in
    let same = one_window c.args.line.now (drop h.0 c.args.line.now) c.in_ok-seconds.seconds seconds h.1.1 (sym h.2 ∙ c.in_ok-seconds.ensures.some) c.in_ok-seconds.ensures.within given in
    absurd (omega (arith, same, given.window.1, c.if-seconds-le-WINDOW_LIMIT.false))
