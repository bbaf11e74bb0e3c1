-- What is received is what is sent, and that is the client's own operation with names of types added.
use Rattle.std.proofs.Common.{◌∙◌}
use Rattle.sent_documents.proofs.SentOperations.{operation_of}
use Rattle.received_requests.proofs.responses.replies_to_what_is_received.Goals as goal

pub returns-clause-stripped : goal.returns-clause-stripped
unfolding operation_of
returns-clause-stripped c r p alias q free is x t answers = c.responses_to_what_is_sent.ensures.stripped alias (operation_of r p alias free) t ((c.responses_to_what_is_received.ensures.fit r p alias q is x t).0 answers)

pub returns-clause-costs : goal.returns-clause-costs
unfolding operation_of
returns-clause-costs c r p alias q free is x part t answers = c.responses_to_what_is_received.ensures.costs r p alias q is x part t ∙ c.responses_to_what_is_sent.ensures.costs alias (operation_of r p alias free) part t ((c.responses_to_what_is_received.ensures.fit r p alias q is x t).0 answers)

pub returns-clause-each : goal.returns-clause-each
unfolding operation_of
returns-clause-each c r p alias q free is x s answers =
    let found = c.responses_to_what_is_sent.ensures.each alias (operation_of r p alias free) s answers in
    (found.0, (c.responses_to_what_is_received.ensures.fit r p alias q is x found.0).1 found.1, found.2)

pub returns-clause-reads : goal.returns-clause-reads
returns-clause-reads c r p alias q keeps well free is x t answers = λ json says. c.replies_read_by_the_plan_of_the_request.ensures r p alias keeps free well t json ((c.responses_to_what_is_received.ensures.fit r p alias q is x t).0 answers) says
