use Rattle.response_model.specs.Cost.{types, fields}
use Rattle.response_model.specs.Examples.{holds_string, find}
use Rattle.response_model.proofs.Filling.{bound_is}
use Rattle.response_model.proofs.SoundPlans.{find_sound}
use Rattle.response_model.proofs.examples.bound_with_arguments.Goals as goal

pub returns-clause-types_cost : goal.returns-clause-types_cost
returns-clause-types_cost c = bound_is holds_string types find find_sound

pub returns-clause-fields_cost : goal.returns-clause-fields_cost
returns-clause-fields_cost c = bound_is holds_string fields find find_sound
