use Rattle.acceptance.proofs.AlikeRequests.{accepted_alike, refused_alike, one_plan}
use Rattle.acceptance.proofs.AlikeBodies.{one_body}
use Rattle.acceptance.proofs.laws.alike_requests_are_answered_alike.Goals as goal

pub returns-clause-accepted : goal.returns-clause-accepted
returns-clause-accepted c = accepted_alike

pub returns-clause-refused : goal.returns-clause-refused
returns-clause-refused c = refused_alike

pub returns-clause-one_plan : goal.returns-clause-one_plan
returns-clause-one_plan c = one_plan

pub returns-clause-one_body : goal.returns-clause-one_body
returns-clause-one_body c = one_body
