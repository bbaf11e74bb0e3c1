-- The next window begins behind what is left of the moment's own.
use Rattle.std.proofs.Common.{◌-◌, ◌%◌, ◌<◌, ap, sym, ◌∙◌, subst, arith}
use Rattle.gateway_core.specs.Gates.{rules_of}
use Rattle.gateway_core.specs.Rules.{IsUpToNext}
use Rattle.gateway_core.proofs.NextWindows.{left_up_to, some_left, next_then, same_until}
use Rattle.gateway_core.proofs.gate.Gate.seconds_left.Goals as goal

pub returns-clause-left : goal.returns-clause-left
returns-clause-left c =
    let gate = c.args.self.now in
    ap (λ s. s - c.args.moment % s) c.from-window.ensures ∙ left_up_to c.args.moment gate.settings.window_seconds (omega (arith, gate.served.window.0))

pub returns-clause-next : goal.returns-clause-next
returns-clause-next c =
    let gate = c.args.self.now in
    let moment = c.args.moment in
    let seconds = gate.settings.window_seconds in
    let some : 0 < seconds = omega (arith, gate.served.window.0) in
    subst (λ s. IsUpToNext (rules_of gate) moment (s - moment % s)) (sym c.from-window.ensures) record {
      some = some_left moment seconds some;
      whole = omega arith;
      next = next_then moment seconds some;
      not_sooner = same_until moment seconds some;
    }
