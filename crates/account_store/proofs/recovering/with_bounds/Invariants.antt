use Rattle.std.proofs.Common.{◌≡◌, drop, map}
use Rattle.account_core.specs.Costs.{together}
use Rattle.account_core.specs.Machine.{held_in}
use Rattle.account_store.specs.Steps.{grant_of}
use Rattle.account_store.proofs.recovering.with_bounds.Given as goal

abbrev pub invariant-grants : goal.invariant-grants
invariant-grants l = together l.sum (held_in l.window (map grant_of (drop l.grant-index l.grants))) ≡ together l.fn.settled (held_in l.window (map grant_of l.grants))
