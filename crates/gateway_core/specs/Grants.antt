-- A granted request as contracts see it.
use Rattle.account_shared.specs.Views.{PassesView, IsOpen}
use Rattle.gateway_core.specs.declared.grant.Grant.{Grant}
use Rattle.gateway_core.specs.declared.promise.Promise.{Promise}

-- what was promised, at the bound that is held
abbrev pub promise_of : Grant → Promise
promise_of g = record { plan = g.plan; bound = g.ticket.bound; alias = g.alias; forward = g.forward }

-- the grant is open in these passes
abbrev pub IsOpenGrant : PassesView → Grant → Type 0
IsOpenGrant p g = IsOpen p g.ticket.client g.ticket.seq g.ticket.window g.ticket.bound
