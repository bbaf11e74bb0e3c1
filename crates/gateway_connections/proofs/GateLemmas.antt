-- Lemmas of the decision on requests, passed on to whoever stands on connections.
pub use Rattle.gateway_core.proofs.SharedGates.{gate_sync}
pub use Rattle.gateway_core.proofs.FreshAccounts.{fresh_at, fresh_count}
