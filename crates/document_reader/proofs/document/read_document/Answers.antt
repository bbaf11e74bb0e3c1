use Rattle.std.proofs.Common.{[], sym, ap, ◌∙◌, subst}
use Rattle.gql_base.specs.ways.Symbols.{symbols_from}
use Rattle.gql_base.proofs.WayLaws.OneTextFault.{memory_of_lexing}
use Rattle.gql_base.specs.ways.FirstFaults.{level_limit, IsWritten}
use Rattle.document_reader.specs.Documents.{IsDocument}
use Rattle.document_reader.specs.DocumentAnswers.{told_of_document}
use Rattle.document_reader.proofs.document.read_document.Goals as goal

pub returns-in-Ok-clause-only : goal.returns-in-Ok-clause-only
returns-in-Ok-clause-only c = λ trees has.
    c.parse.ensures.only trees (subst (λ ws. IsWritten IsDocument level_limit ws trees []) (sym (ap (λ ts. symbols_from c.args.text.now ts 0) (c.as_slice.ensures.value ∙ c.in-Ok.ensures.only has.0 has.1))) has.2)

pub returns-in-Err-clause-only : goal.returns-in-Err-clause-only
returns-in-Err-clause-only c = λ trees has. memory_of_lexing c.in-Err.fault (told_of_document c.lexical.result) (c.in-Err.ensures.only has.0 has.1) c.lexical.ensures
