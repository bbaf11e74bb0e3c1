use Rattle.gql_base.specs.parts.Values.{IsValue}
use Rattle.gql_base.specs.parts.TypeReferences.{IsType}
use Rattle.gql_base.proofs.PartLaws.OneFault.{fault_of_memory}
use Rattle.gql_base.proofs.parts.fault_laws.a_read_value_has_no_fault.Goals as goal

pub returns-clause-values : goal.returns-clause-values
returns-clause-values c = λ constant. fault_of_memory (IsValue constant 0)

pub returns-clause-types : goal.returns-clause-types
returns-clause-types c = fault_of_memory (IsType 0)
