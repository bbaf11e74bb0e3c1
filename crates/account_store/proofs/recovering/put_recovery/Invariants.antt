use Rattle.std.proofs.Common.{◌≡◌, ◌++◌, drop, map}
use Rattle.account_core.specs.Costs.{together}
use Rattle.account_core.specs.Machine.{held_in}
use Rattle.account_store.specs.Steps.{grant_of, recovery_steps}
use Rattle.account_store.proofs.recovering.put_recovery.Given as goal

abbrev pub invariant-grants : goal.invariant-grants
invariant-grants l =
    (together l.row.settled (held_in l.row.window (map grant_of (drop l.grant-index l.grants))) ≡ together l.fn.row.settled (held_in l.fn.row.window (map grant_of l.grants)))
    × (l.batch.items ++ recovery_steps l.row (map grant_of (drop l.grant-index l.grants)) ≡ l.fn.batch.items ++ recovery_steps l.fn.row (map grant_of l.grants))
