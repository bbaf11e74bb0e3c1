use Rattle.gql_base.proofs.PartLaws.OneTree.{one_value, one_type}
use Rattle.gql_base.proofs.parts.tree_laws.a_text_is_one_value.Goals as goal

pub returns-clause-values : goal.returns-clause-values
returns-clause-values c = one_value

pub returns-clause-types : goal.returns-clause-types
returns-clause-types c = one_type
