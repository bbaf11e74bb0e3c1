use Rattle.document_reader.proofs.OneDocumentFault.{document_or_fault, no_document_fault, one_document_fault}
use Rattle.document_reader.proofs.fault_laws.a_text_is_a_document_or_has_one_fault.Goals as goal

pub returns-clause-either : goal.returns-clause-either
returns-clause-either c = document_or_fault

pub returns-clause-not_both : goal.returns-clause-not_both
returns-clause-not_both c = no_document_fault

pub returns-clause-one_fault : goal.returns-clause-one_fault
returns-clause-one_fault c = one_document_fault

pub returns-clause-documents : goal.returns-clause-documents
returns-clause-documents c = λ floats text document is. (is.tokens, is.lexes, is.among.written)
