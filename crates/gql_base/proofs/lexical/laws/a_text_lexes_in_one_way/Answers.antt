use Rattle.gql_base.proofs.LexicalLaws.OneDivision.{lexes_once, has_lexemes_once}
use Rattle.gql_base.proofs.lexical.laws.a_text_lexes_in_one_way.Goals as goal

pub returns-clause-tokens : goal.returns-clause-tokens
returns-clause-tokens c = lexes_once

pub returns-clause-lexemes : goal.returns-clause-lexemes
returns-clause-lexemes c = has_lexemes_once
