-- Words of the crates below, passed on to those above, which so need no entry for the crates where these are at home.
pub use Rattle.gateway_journal.specs.Kept.{kept_slots}
pub use Rattle.gateway_journal.specs.Served.{service_kept}
