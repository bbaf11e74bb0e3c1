use Rattle.document_reader.proofs.ReadingBackLaws.{reads_back, printed_in_utf8}
use Rattle.document_reader.proofs.reading_back.what_is_printed_reads_back_as_the_same_document.Goals as goal

pub returns-clause-reads_back : goal.returns-clause-reads_back
returns-clause-reads_back c = reads_back

pub returns-clause-utf8 : goal.returns-clause-utf8
returns-clause-utf8 c = printed_in_utf8
