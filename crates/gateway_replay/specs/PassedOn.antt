-- Words of the crates below, passed on to those above, which so need no entry for the crates where these are at home.
pub use Rattle.gateway_core.specs.Fresh.{AreFresh}
pub use Rattle.gateway_core.specs.Gates.{rules_of}
pub use Rattle.gateway_core.specs.Rules.{HasWeights, IsCarriedWithin, IsSettledWithin, Rules, client_limit, greatest, rules_with}
