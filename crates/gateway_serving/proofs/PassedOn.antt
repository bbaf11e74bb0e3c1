-- Lemmas of the crates below, passed on to those above, which so need no entry for the crates where these are at home.
pub use Rattle.gateway_workers.proofs.Turns.{visits_then}
