use Rattle.received_requests.proofs.BodiesSent.{body_query, body_variables, body_name, body_has_keys, body_once}
use Rattle.received_requests.proofs.bodies.what_the_body_holds.Goals as goal

pub returns-clause-query : goal.returns-clause-query
returns-clause-query c = body_query

pub returns-clause-variables : goal.returns-clause-variables
returns-clause-variables c r p alias = body_variables r p alias

pub returns-clause-name : goal.returns-clause-name
returns-clause-name c r p alias = body_name r p alias

pub returns-clause-keys : goal.returns-clause-keys
returns-clause-keys c r p alias = body_has_keys r p alias

pub returns-clause-once : goal.returns-clause-once
returns-clause-once c r p alias given = body_once r p alias given
