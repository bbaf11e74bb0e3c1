-- Words of the crates below, passed on to those above, which so need no entry for the crates where these are at home.
pub use Rattle.gateway_workers.specs.PassedOn.{LosesExchange, LosesForwarded, Service, WireTelling, telling, LosesServing, limits_of, LosesCalls, LosesReservation, numbers_taken, IsCarriedWithin, IsSettledWithin, greatest, window_of, Gate, Grant}
unfoldable pub use Rattle.gateway_workers.specs.PassedOn.{calls_of}
