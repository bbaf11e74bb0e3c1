-- What the reader of documents answers.
use Rattle.std.specs.Prelude.{ℕ, Bool, List, [], length, map, Result}
use Rattle.gql_base.specs.declared.lexical.token.Token.{Token}
use Rattle.gql_base.specs.lexical.Tokens.{Lexes}
use Rattle.gql_base.specs.ways.Symbols.{symbols_from}
use Rattle.gql_base.specs.ways.FirstFaults.{level_limit, IsWritten}
use Rattle.gql_base.specs.ways.TextFaults.{TextFault, lexical_fault, unexpected_at, too_deep_at, no_memory, HasTree, IsFaultFrom, IsTextFault, HasTextFault, GivesTree}
use Rattle.document_reader.specs.declared.document.DocFault.{DocFault}
use Rattle.document_reader.specs.declared.document.DocFault.TheVariants.{Lex, Unexpected, TooDeep, Memory}
use Rattle.document_reader.specs.declared.trees.Document.{Document}
use Rattle.document_reader.specs.Documents.{DefinitionTree, IsDocument}
use Rattle.document_reader.specs.Trees.{definition_tree}
use Rattle.document_reader.specs.Places.{AllStandFrom}

-- the trees of a document
abbrev pub document_trees : Document → List DefinitionTree
document_trees document = map definition_tree document.definitions.items

-- The tokens of a text are the document: they are written with its trees, and each operation tells the offset of its
-- first token.
pub record IsDocumentAmong (text : List ℕ) (tokens : List Token) (document : Document) : Type 0 where
  pub written : IsWritten IsDocument level_limit (symbols_from text tokens 0) (document_trees document) []
  pub places : AllStandFrom text tokens 0 (length tokens) document.definitions.items

-- The text, in which floats may stand or may not, is the document.
pub record IsDocumentOf (floats : Bool) (text : List ℕ) (document : Document) : Type 0 where
  pub tokens : List Token
  pub lexes : Lexes floats text tokens
  pub among : IsDocumentAmong text tokens document

-- what the fault tells
abbrev pub told_of_document : DocFault → TextFault
told_of_document (Lex fault) = lexical_fault fault
told_of_document (Unexpected at) = unexpected_at at
told_of_document (TooDeep at) = too_deep_at at
told_of_document Memory = no_memory

-- The answer is a document with these trees, if memory didn't run out.
abbrev pub GivesTrees : List DefinitionTree → Result Document DocFault → Type 0
GivesTrees = GivesTree document_trees told_of_document

-- why the tokens of a text are no document, with the offset of the first fault
abbrev pub IsFaultAmong : List ℕ → List Token → DocFault → Type 0
IsFaultAmong text tokens fault = IsFaultFrom IsDocument text tokens 0 (told_of_document fault)

-- why a text is no document
abbrev pub IsDocumentFault : Bool → List ℕ → DocFault → Type 0
IsDocumentFault floats text fault = IsTextFault floats IsDocument text (told_of_document fault)

-- The text is a document with these trees, however much memory there is for it.
abbrev pub HasDocument : Bool → List ℕ → List DefinitionTree → Type 0
HasDocument floats = HasTree floats IsDocument

-- The text has this fault; want of memory is none of its own.
abbrev pub HasDocumentFault : Bool → List ℕ → DocFault → Type 0
HasDocumentFault floats text fault = HasTextFault floats IsDocument text (told_of_document fault)
