use Rattle.gql_base.proofs.PrintingLaws.TextSymbols.{symbols_textual}
use Rattle.gql_base.proofs.printing.printed_texts.symbols_of_a_text_are_textual.Goals as goal

pub returns : goal.returns
returns c = symbols_textual
