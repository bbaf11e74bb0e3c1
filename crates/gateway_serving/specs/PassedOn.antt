-- Words of the crates below, passed on to those above, which so need no entry for the crates where these are at home.
pub use Rattle.gateway_workers.specs.Tours.{Run, door_members, one_if, visits_of}
unfoldable pub use Rattle.gateway_workers.specs.Tours.{AreRuns, calls_in, replies_in}
pub use Rattle.gateway_workers.specs.declared.work_done.WorkDone.{WorkDone}
pub use Rattle.gateway_workers.specs.declared.working.TheConstants.{CONNECTION_LIMIT}
pub use Rattle.gateway_workers.specs.PassedOn.{Exchange, IsExchange, Service, service_in, IsDue, Metered, UpstreamReply, WasBrought, WasExchanged, WasGivenOr500, Gate, IsCarriedWithin, IsSettledWithin, Settings, client_limit, limits_of}
