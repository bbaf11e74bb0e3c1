use Rattle.document_reader.proofs.PrintedDocumentLaws.{document_rewritten}
use Rattle.document_reader.proofs.printing_laws.what_is_printed_is_written_as_the_same_document.Goals as goal

pub returns : goal.returns
returns c = λ n trees ws is within. let r = document_rewritten n trees ws is within in (r.front, r.same, r.written, r.within)
