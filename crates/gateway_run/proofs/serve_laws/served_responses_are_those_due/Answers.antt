-- The schema of the rules was built, so that its types have different names.
use Rattle.gateway_run.specs.Serve.{service_over}
use Rattle.gateway_run.proofs.serve_laws.served_responses_are_those_due.Goals as goal

pub returns-clause-given : goal.returns-clause-given
returns-clause-given c slots asked texts inputs held made x metered =
    c.a_response_is_given_where_it_is_due.ensures.given (service_over slots asked inputs) made x metered
    (c.types_of_built_schemas_differ.ensures.differ held.are_rules.is_schema.0.0 inputs.rules.weighed.schema held.are_rules.is_schema.0.2)

pub returns-clause-alike : goal.returns-clause-alike
returns-clause-alike c slots asked texts inputs held x y reply =
    c.a_response_is_given_where_it_is_due.ensures.not_both (service_over slots asked inputs) x y reply
    (c.types_of_built_schemas_differ.ensures.differ held.are_rules.is_schema.0.0 inputs.rules.weighed.schema held.are_rules.is_schema.0.2)
