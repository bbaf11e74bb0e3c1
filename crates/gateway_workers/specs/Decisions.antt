-- Words of exchanges, at home in `gateway_connections`, and of the decision on requests, at home in `gateway_core`, passed on to whoever stands on
-- workers.
pub use Rattle.gateway_connections.specs.Decisions.{Rules, rules_with, client_limit, HasWeights, rules_of, AreFresh}
pub use Rattle.gateway_connections.specs.Exchanges.{Service, service_of}
