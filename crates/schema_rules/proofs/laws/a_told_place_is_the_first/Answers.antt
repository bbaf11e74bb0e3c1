-- For any things and faults.
use Rattle.schema_rules.proofs.FirstFaults.{told_is_first, first_is_told, none_are_good, good_have_none}
use Rattle.schema_rules.proofs.laws.a_told_place_is_the_first.Goals as goal

pub returns-clause-is_first : goal.returns-clause-is_first
returns-clause-is_first c = told_is_first

pub returns-clause-first_is : goal.returns-clause-first_is
returns-clause-first_is c = first_is_told

pub returns-clause-none : goal.returns-clause-none
returns-clause-none c = none_are_good

pub returns-clause-good : goal.returns-clause-good
returns-clause-good c = good_have_none
