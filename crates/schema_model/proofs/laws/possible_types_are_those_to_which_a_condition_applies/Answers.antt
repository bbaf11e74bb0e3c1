use Rattle.schema_model.proofs.PossibleLaws.{possible_iff, possible_rising}
use Rattle.schema_model.proofs.laws.possible_types_are_those_to_which_a_condition_applies.Goals as goal

pub returns-clause-possible : goal.returns-clause-possible
returns-clause-possible c = possible_iff

pub returns-clause-in_order : goal.returns-clause-in_order
returns-clause-in_order c = possible_rising
