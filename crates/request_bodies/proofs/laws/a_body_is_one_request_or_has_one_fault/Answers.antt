use Rattle.request_bodies.proofs.Bodies.{answered}
use Rattle.request_bodies.proofs.laws.a_body_is_one_request_or_has_one_fault.Goals as goal

pub returns-clause-some : goal.returns-clause-some
returns-clause-some c = answered
