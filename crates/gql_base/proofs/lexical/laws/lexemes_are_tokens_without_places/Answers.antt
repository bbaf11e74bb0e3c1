use Rattle.gql_base.proofs.WayLaws.Places.{has_lexemes, has_tokens}
use Rattle.gql_base.proofs.lexical.laws.lexemes_are_tokens_without_places.Goals as goal

pub returns-clause-of_tokens : goal.returns-clause-of_tokens
returns-clause-of_tokens c = has_lexemes

pub returns-clause-have_tokens : goal.returns-clause-have_tokens
returns-clause-have_tokens c = has_tokens
