-- What is sent to the upstream for a request.
use Rattle.std.specs.Prelude.{◌≡◌, ◌<◌, ℕ, List, map, false}
use Rattle.serde_json.specs.Data.{Data, depth}
use Rattle.serde_json.specs.Read.{max_depth}
use Rattle.serde_json.specs.Written.{has_float, compact_text}
use Rattle.response_model.specs.WrittenJson.{IsCompact}
use Rattle.gql_base.specs.printing.Printing.{printed}
use Rattle.document_reader.specs.Documents.{DefinitionTree}
use Rattle.document_reader.specs.Trees.{definition_tree}
use Rattle.document_reader.specs.PrintedDocuments.{document_symbols}
use Rattle.typename_rewrite.specs.Rewriting.{rewritten_document}
use Rattle.typename_rewrite.specs.AddedNames.{names_of_document, IsAlias}
use Rattle.typename_rewrite.specs.ReadJson.{IsAsRead}
use Rattle.typename_rewrite.specs.ForwardedBodies.{body_data}
use Rattle.acceptance.specs.Requests.{RequestData, Prepared, setting}

-- The response key under which names of types are added: it has the fewest underscores with which it is no name of the document.
abbrev pub IsFreeIn : RequestData → List ℕ → Type 0
IsFreeIn r alias = IsAlias (names_of_document (map definition_tree r.document)) alias

-- the operation with the fragments that it reaches, where the names of types are added
abbrev pub sent_document : (r : RequestData) → Prepared r → List ℕ → List DefinitionTree
sent_document r p alias = rewritten_document r.schema alias p.root p.operation (setting r p).fragments

-- its text
abbrev pub sent_text : (r : RequestData) → Prepared r → List ℕ → List ℕ
sent_text r p alias = printed (document_symbols (sent_document r p alias))

-- the body of the request in which it is sent
abbrev pub sent_body : (r : RequestData) → Prepared r → List ℕ → Data
sent_body r p alias = body_data p.operation (sent_text r p alias) r.given

-- What is given for the variables comes from a reader, and leaves a level of nesting to the body.
pub record IsGivenAsRead (given : Data) : Type 0 where
  pub as_read : IsAsRead given
  pub within : depth given < max_depth

-- The text is a compact one of the body, where what is given comes from a reader; and just the compact text, where the body holds no float.
pub record IsSentText (r : RequestData) (p : Prepared r) (alias text : List ℕ) : Type 0 where
  pub compact : IsGivenAsRead r.given → IsCompact (sent_body r p alias) text
  pub plain : has_float (sent_body r p alias) ≡ false → text ≡ compact_text (sent_body r p alias)
