use Rattle.sent_documents.proofs.SentTextLaws.{sent_reads_back, sent_in_utf8, sent_alone}
use Rattle.sent_documents.proofs.laws.what_is_sent_reads_back.Goals as goal

pub returns-clause-reads_back : goal.returns-clause-reads_back
returns-clause-reads_back c = sent_reads_back

pub returns-clause-utf8 : goal.returns-clause-utf8
returns-clause-utf8 c = sent_in_utf8

pub returns-clause-only : goal.returns-clause-only
returns-clause-only c r p alias text free is trees has = sent_alone r p alias text trees free is has
