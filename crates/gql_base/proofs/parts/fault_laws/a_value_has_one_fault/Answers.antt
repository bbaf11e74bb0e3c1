use Rattle.gql_base.proofs.WayLaws.DeterminedNestings.{by_counting}
use Rattle.gql_base.proofs.WayLaws.CountedLevels.{value_counted, type_counted}
use Rattle.gql_base.proofs.PartLaws.OneFault.{one_fault}
use Rattle.gql_base.proofs.parts.fault_laws.a_value_has_one_fault.Goals as goal

pub returns-clause-values : goal.returns-clause-values
returns-clause-values c = λ constant. one_fault (by_counting (value_counted constant 0))

pub returns-clause-types : goal.returns-clause-types
returns-clause-types c = one_fault (by_counting (type_counted 0))
