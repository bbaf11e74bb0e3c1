use Rattle.gateway_serving.proofs.AddedUp.{connections_given}
use Rattle.gateway_serving.proofs.laws.connections_are_those_of_the_doors.Goals as goal

pub returns : goal.returns
returns c = connections_given
