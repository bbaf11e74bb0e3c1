use Rattle.gql_base.proofs.NameLaws.DistinctLaws.{distinct_once, once_distinct}
use Rattle.gql_base.proofs.names.laws.distinct_names_stand_once.Goals as goal

pub returns-clause-once : goal.returns-clause-once
returns-clause-once c = distinct_once

pub returns-clause-distinct : goal.returns-clause-distinct
returns-clause-distinct c = once_distinct
