-- The clients of a gate may be served.
use Rattle.std.proofs.Common.{All, map, sym, ap, ◌∙◌, subst}
use Rattle.account_core.specs.Numbers.{FitsCap}
use Rattle.gateway_core.specs.Rules.{client_limit, greatest}
use Rattle.gateway_core.proofs.CappedAccounts.{served_fit}
use Rattle.gateway_core.proofs.gate.Gate.limits.Goals as goal

pub returns-clause-fit : goal.returns-clause-fit
returns-clause-fit c =
    let gate = c.args.self.now in
    subst (All (FitsCap greatest)) (sym (c.in_ok-limits.ensures ∙ ap (map client_limit) c.items.ensures)) (served_fit gate.settings.window_seconds gate.clients.items.items gate.served)
