-- Words of the decision on requests, passed on to whoever stands on connections. They are at home in `gateway_core`.
pub use Rattle.gateway_core.specs.Rules.{Rules, rules_with, client_limit, HasWeights}
pub use Rattle.gateway_core.specs.Gates.{rules_of}
pub use Rattle.gateway_core.specs.Fresh.{AreFresh}
