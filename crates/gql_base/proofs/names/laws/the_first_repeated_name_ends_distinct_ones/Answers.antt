use Rattle.gql_base.proofs.NameLaws.RepeatedLaws.{distinct_none, none_distinct, before_distinct, with_it_repeated}
use Rattle.gql_base.proofs.names.laws.the_first_repeated_name_ends_distinct_ones.Goals as goal

pub returns-clause-none : goal.returns-clause-none
returns-clause-none c = λ names. (none_distinct names, distinct_none names)

pub returns-clause-before : goal.returns-clause-before
returns-clause-before c = before_distinct

pub returns-clause-with_it : goal.returns-clause-with_it
returns-clause-with_it c = with_it_repeated
