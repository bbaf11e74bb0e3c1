use Rattle.response_model.specs.Cost.{types, fields}
use Rattle.response_model.specs.Examples.{holds_string, tags_and_kind}
use Rattle.response_model.proofs.Filling.{bound_is}
use Rattle.response_model.proofs.SoundPlans.{tags_sound}
use Rattle.response_model.proofs.examples.list_of_any_length.Goals as goal

pub returns-clause-types_cost : goal.returns-clause-types_cost
returns-clause-types_cost c = bound_is holds_string types tags_and_kind tags_sound

pub returns-clause-fields_cost : goal.returns-clause-fields_cost
returns-clause-fields_cost c = bound_is holds_string fields tags_and_kind tags_sound
