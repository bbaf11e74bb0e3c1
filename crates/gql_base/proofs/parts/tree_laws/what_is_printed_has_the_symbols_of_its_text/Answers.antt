use Rattle.gql_base.proofs.PrintingLaws.PrintedSymbols.{value_is_bare, type_is_bare}
use Rattle.gql_base.proofs.parts.tree_laws.what_is_printed_has_the_symbols_of_its_text.Goals as goal

pub returns-clause-values : goal.returns-clause-values
returns-clause-values c = λ constant. value_is_bare constant 0

pub returns-clause-types : goal.returns-clause-types
returns-clause-types c = type_is_bare 0
