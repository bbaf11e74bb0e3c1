use Rattle.local_introspection.proofs.HasVerdict.{has_verdict, no_verdict}
use Rattle.local_introspection.proofs.laws.a_request_has_a_verdict.Goals as goal

pub returns-clause-some : goal.returns-clause-some
returns-clause-some c = has_verdict (record { fit = c.responses_to_what_is_asked.ensures.fit; costs = c.responses_to_what_is_asked.ensures.costs }) c.a_meta_schema_has_its_form.ensures

pub returns-clause-none : goal.returns-clause-none
returns-clause-none c = no_verdict
