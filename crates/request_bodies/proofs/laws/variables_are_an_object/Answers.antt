use Rattle.request_bodies.proofs.Bodies.{variables_object, variables_source}
use Rattle.request_bodies.proofs.laws.variables_are_an_object.Goals as goal

pub returns-clause-object : goal.returns-clause-object
returns-clause-object c = variables_object

pub returns-clause-source : goal.returns-clause-source
returns-clause-source c = variables_source
