use Rattle.std.proofs.Common.{◌≤◌, sym, subst}
use Rattle.gateway_cli.proofs.ending.end_run.Goals as goal

pub returns-clause-known : goal.returns-clause-known
returns-clause-known g c = subst (λ status. status ≤ 9) (sym c.from.ensures) (c.a_status_says_what_was_done.ensures.known c.run.result _ _ _ _ _ c.run.ensures)
