use Rattle.gql_base.proofs.WayLaws.Places.{in_order, lie_within}
use Rattle.gql_base.proofs.LexicalLaws.Borders.{have_borders}
use Rattle.gql_base.proofs.lexical.laws.tokens_lie_in_their_text.Goals as goal

pub returns-clause-in_order : goal.returns-clause-in_order
returns-clause-in_order c = in_order

pub returns-clause-within : goal.returns-clause-within
returns-clause-within c = lie_within

pub returns-clause-at_borders : goal.returns-clause-at_borders
returns-clause-at_borders c = have_borders
