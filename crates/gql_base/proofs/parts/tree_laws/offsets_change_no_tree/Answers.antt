use Rattle.gql_base.proofs.PartLaws.AlikeTrees.{value_again, type_again}
use Rattle.gql_base.proofs.parts.tree_laws.offsets_change_no_tree.Goals as goal

pub returns-clause-values : goal.returns-clause-values
returns-clause-values c = λ constant. value_again constant 0

pub returns-clause-types : goal.returns-clause-types
returns-clause-types c = type_again 0
