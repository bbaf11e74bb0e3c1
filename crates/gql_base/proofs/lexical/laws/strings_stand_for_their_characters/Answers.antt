use Rattle.gql_base.proofs.LexicalLaws.ScannedStrings.{body_value}
use Rattle.gql_base.proofs.LexicalLaws.ScannedBlocks.{block_body_value}
use Rattle.gql_base.proofs.LexicalLaws.StringTokens.{tokens_stand}
use Rattle.gql_base.proofs.lexical.laws.strings_stand_for_their_characters.Goals as goal

pub returns-clause-strings : goal.returns-clause-strings
returns-clause-strings c = body_value

pub returns-clause-blocks : goal.returns-clause-blocks
returns-clause-blocks c = block_body_value

pub returns-clause-tokens : goal.returns-clause-tokens
returns-clause-tokens c = tokens_stand
