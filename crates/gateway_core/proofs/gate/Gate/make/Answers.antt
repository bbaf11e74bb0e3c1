-- The limits of clients that may be served fit the cap.
use Rattle.std.proofs.Common.{◌∙◌, All, map, subst, sym, ap}
use Rattle.account_core.specs.Numbers.{FitsCap}
use Rattle.gateway_core.specs.Rules.{client_limit, greatest}
use Rattle.gateway_core.proofs.CappedAccounts.{served_fit}
use Rattle.gateway_core.proofs.gate.Gate.make.Goals as goal

pub make-requires-clause-limits : goal.make-requires-clause-limits
make-requires-clause-limits c =
    let limits = c.in_ok-limits.ensures ∙ ap (map client_limit) c.deref.ensures.value in
    subst (All (FitsCap greatest)) (sym limits) (served_fit c.args.settings.window_seconds c.args.clients.items c.requires.served)
