use Rattle.cost_directives.proofs.LookedUp.{type_looked_up, other_type, field_looked_up}
use Rattle.cost_directives.proofs.laws.look_ups_answer_by_the_rules.Goals as goal

pub returns-clause-types : goal.returns-clause-types
returns-clause-types c = type_looked_up

pub returns-clause-other_types : goal.returns-clause-other_types
returns-clause-other_types c = other_type

pub returns-clause-fields : goal.returns-clause-fields
returns-clause-fields c = field_looked_up
