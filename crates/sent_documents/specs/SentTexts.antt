-- The client's text from which a document comes that is sent, and the text that is sent.
use Rattle.std.specs.Prelude.{◌≡◌, List, ℕ, map, IsUtf8}
use Rattle.gql_base.specs.ways.TextFaults.{HasTree}
use Rattle.gql_base.specs.printing.ReadingBack.{SpellsAgain}
use Rattle.schema_model.specs.SchemaData.{has_floats}
use Rattle.document_reader.specs.Documents.{DefinitionTree, IsDocument}
use Rattle.document_reader.specs.DocumentAnswers.{HasDocument}
use Rattle.document_reader.specs.PlacelessDocuments.{document_placeless}
use Rattle.document_reader.specs.Trees.{definition_tree}
use Rattle.acceptance.specs.Requests.{RequestData, Prepared}
use Rattle.acceptance.specs.Forwarding.{sent_document, sent_text}

-- It is UTF-8, and the text of the request's document, with floats where the schema lets them in.
pub record IsClientText (r : RequestData) (text : List ℕ) : Type 0 where
  pub utf8 : IsUtf8 text
  pub spells : HasTree (has_floats r.schema) IsDocument text (map definition_tree r.document)

module _ (r : RequestData) (p : Prepared r) (alias : List ℕ) where
  -- The text that is sent is that of the document that is sent, but for the offsets of names.
  abbrev pub ReadsBack : Type 0
  ReadsBack = SpellsAgain (has_floats r.schema) IsDocument document_placeless (sent_text r p alias) (sent_document r p alias)

  -- It is no other document's.
  abbrev pub IsOfOneDocument : Type 0
  IsOfOneDocument = (trees : List DefinitionTree) → HasDocument (has_floats r.schema) (sent_text r p alias) trees → document_placeless trees ≡ document_placeless (sent_document r p alias)
