use Rattle.document_reader.proofs.AlikeDocuments.{document_alike}
use Rattle.document_reader.proofs.tree_laws.offsets_change_no_document.Goals as goal

pub returns : goal.returns
returns c = document_alike.again
