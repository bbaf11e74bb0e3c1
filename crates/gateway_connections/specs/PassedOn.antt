-- Words of the crates below, passed on to those above, which so need no entry for the crates where these are at home.
pub use Rattle.gateway_core.specs.Numbers.{numbers_taken, AreSettled, IsFullAt}
pub use Rattle.gateway_core.specs.Gates.{limits_of, rules_of}
pub use Rattle.gateway_core.specs.Losses.{LosesCalls, LosesReservation}
pub use Rattle.gateway_core.specs.Rules.{client_limit, greatest, window_of, IsCarriedWithin, IsSettledWithin}
pub use Rattle.gateway_core.specs.declared.gate.Gate.{Gate}
pub use Rattle.gateway_core.specs.declared.gate.Settings.{Settings}
pub use Rattle.gateway_core.specs.declared.grant.Grant.{Grant}
