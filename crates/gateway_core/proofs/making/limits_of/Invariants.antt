use Rattle.std.proofs.Common.{◌≡◌, map, take}
use Rattle.gateway_core.specs.Rules.{client_limit}
use Rattle.gateway_core.proofs.making.limits_of.Given as goal

abbrev pub invariant-loop-client : goal.invariant-loop-client
invariant-loop-client l = l.limits.items ≡ map client_limit (take l.client-index l.clients)
