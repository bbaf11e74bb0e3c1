-- Words of what is served, at home in `gateway_connections` and `gateway_workers`, and of the decision on requests, at home in `gateway_core`, passed on
-- to whoever stands on serving.
pub use Rattle.gateway_workers.specs.Decisions.{Rules, rules_with, HasWeights, rules_of, AreFresh, Service, service_of}
pub use Rattle.gateway_workers.specs.declared.work_done.WorkDone.{WorkDone}
