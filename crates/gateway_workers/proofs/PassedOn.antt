-- Lemmas of the crates below, passed on to those above, which so need no entry for the crates where these are at home.
pub use Rattle.gateway_connections.proofs.Growing.{one_more_made}
pub use Rattle.gateway_connections.proofs.OneExchange.{exchange_settled}
pub use Rattle.gateway_connections.proofs.PassedOn.{on_err, remaining_within, room_within, taken_none, taken_then}
