use Rattle.gql_base.proofs.PrintingLaws.PrintedPieces.{printed_lexes, printed_utf8}
use Rattle.gql_base.proofs.printing.printed_texts.what_is_printed_has_the_same_tokens.Goals as goal

pub returns-clause-tokens : goal.returns-clause-tokens
returns-clause-tokens c = printed_lexes

pub returns-clause-utf8 : goal.returns-clause-utf8
returns-clause-utf8 c = printed_utf8
