-- Lemmas of fresh accounts, passed on to whoever stands on workers.
pub use Rattle.gateway_connections.proofs.GateLemmas.{fresh_at, fresh_count}
