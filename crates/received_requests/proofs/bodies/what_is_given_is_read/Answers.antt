use Rattle.acceptance.proofs.ReadKeys.{read_so}
use Rattle.received_requests.proofs.BodiesGiven.{variables_so}
use Rattle.received_requests.proofs.bodies.what_is_given_is_read.Goals as goal

pub returns-clause-of_file : goal.returns-clause-of_file
returns-clause-of_file c r text is within = record { as_read = read_so text r.given is; within = within }

pub returns-clause-of_body : goal.returns-clause-of_body
returns-clause-of_body c r body asked is same = variables_so r body asked is same
