-- Lemmas of the crates below, passed on to those above, which so need no entry for the crates where these are at home.
pub use Rattle.gateway_core.proofs.TakenNumbers.{taken_none, taken_then}
pub use Rattle.gateway_core.proofs.CappedAccounts.{remaining_within, room_within}
pub use Rattle.gateway_core.proofs.LostAccounts.{on_err}
