use Rattle.document_reader.proofs.OneDocument.{one_document, one_document_of}
use Rattle.document_reader.proofs.OnePlace.{one_place_of}
use Rattle.document_reader.proofs.tree_laws.a_text_is_one_document.Goals as goal

pub returns-clause-symbols : goal.returns-clause-symbols
returns-clause-symbols c = one_document

pub returns-clause-texts : goal.returns-clause-texts
returns-clause-texts c = one_document_of

pub returns-clause-places : goal.returns-clause-places
returns-clause-places c = one_place_of
