use Rattle.gateway_serving.proofs.AddedUp.{faults_rising}
use Rattle.gateway_serving.proofs.laws.faults_are_those_of_the_doors.Goals as goal

pub returns : goal.returns
returns c = faults_rising
