-- Words of the crates below, passed on to those above, which so need no entry for the crates where these are at home.
pub use Rattle.gateway_connections.specs.Exchanges.{Exchange, IsExchange, Service, service_in, LosesExchange, LosesForwarded, WireTelling, telling}
unfoldable pub use Rattle.gateway_connections.specs.Exchanges.{AreExchanges}
pub use Rattle.gateway_connections.specs.Measured.{IsDue, Metered, UpstreamReply, WasBrought, WasExchanged, WasGivenOr500}
pub use Rattle.gateway_connections.specs.PassedOn.{Gate, IsCarriedWithin, IsSettledWithin, Settings, client_limit, limits_of, AreSettled, Grant, IsFullAt, LosesCalls, LosesReservation, greatest, numbers_taken, rules_of, window_of}
pub use Rattle.gateway_connections.specs.Connections.{EndIs, EndsAfter, EndsWith, Stop, StopsAt, after_last, all_of, at_fault, end_number, not_begun}
unfoldable pub use Rattle.gateway_connections.specs.Connections.{calls_of}
pub use Rattle.gateway_connections.specs.Serving.{LosesServing, LosesTurn, Serves}
pub use Rattle.gateway_connections.specs.declared.ending.ConnectionEnd.{ConnectionEnd}
pub use Rattle.gateway_connections.specs.declared.ending.ConnectionEnd.TheVariants.{Lost, ReadFault, WriteFault}
pub use Rattle.gateway_connections.specs.declared.ending.Served.{Served}
