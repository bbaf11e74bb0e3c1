-- No symbols are written as two documents, and no text is two documents.
use Rattle.std.proofs.Common.{ℕ, ◌≡◌, List, Bool}
use Rattle.gql_base.specs.ways.Grammar.{Nested, plain}
use Rattle.gql_base.proofs.WayLaws.OneTextFault.{one_tree, one_tree_of}
use Rattle.document_reader.specs.declared.trees.Document.{Document}
use Rattle.document_reader.specs.Documents.{DefinitionTree, IsDocument}
use Rattle.document_reader.specs.DocumentAnswers.{document_trees, IsDocumentOf}
use Rattle.document_reader.proofs.DocumentLaws.{document_family}

pub one_document : (trees others : List DefinitionTree) (ws vs : Nested) → IsDocument trees ws → IsDocument others vs → plain ws ≡ plain vs → trees ≡ others
one_document trees others ws vs is are same = one_tree document_family trees others ws vs is are same

pub one_document_of : (floats : Bool) (text : List ℕ) (document other : Document) → IsDocumentOf floats text document → IsDocumentOf floats text other → document_trees document ≡ document_trees other
one_document_of floats text document other is are = one_tree_of floats document_family text (document_trees document) (document_trees other) (is.tokens, is.lexes, is.among.written) (are.tokens, are.lexes, are.among.written)
