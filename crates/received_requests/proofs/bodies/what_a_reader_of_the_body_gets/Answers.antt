use Rattle.received_requests.proofs.BodiesSent.{body_request, body_only}
use Rattle.received_requests.proofs.bodies.what_a_reader_of_the_body_gets.Goals as goal

pub returns-clause-read : goal.returns-clause-read
returns-clause-read c r p alias text is sent = c.sent_texts_are_read_alike.ensures.read r p alias text is sent

pub returns-clause-request : goal.returns-clause-request
returns-clause-request c r p alias text is sent valid = body_request r p alias text (c.sent_texts_are_read_alike.ensures.read r p alias text is sent) valid

pub returns-clause-only : goal.returns-clause-only
returns-clause-only c r p alias text asked is sent request = body_only r p alias text (c.sent_texts_are_read_alike.ensures.read r p alias text is sent) asked request
