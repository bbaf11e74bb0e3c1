-- The text of the document that is sent reads back as that document.
use Rattle.std.proofs.Common.{ℕ, ◌≡◌, Bool, List, IsUtf8, sym, ap, ◌∙◌, subst}
use Rattle.std.specs.Prelude.{map}
use Rattle.gql_base.specs.ways.Symbols.{identifier}
use Rattle.gql_base.specs.ways.FirstFaults.{level_limit}
use Rattle.gql_base.specs.printing.Printing.{printed}
use Rattle.gql_base.specs.printing.PlacelessSymbols.{placeless_symbol}
use Rattle.gql_base.specs.printing.PrintableSymbols.{IsTextual}
use Rattle.gql_base.specs.printing.ReadingBack.{SpellsAgain}
use Rattle.gql_base.proofs.WayLaws.OneTextFault.{one_tree_of}
use Rattle.gql_base.proofs.PrintingLaws.PrintedPieces.{printed_utf8}
use Rattle.gql_base.proofs.PrintingLaws.PrintedAgain.{spelled_textual, spelled_again, again_of_same}
use Rattle.schema_model.specs.SchemaData.{has_floats}
use Rattle.document_reader.specs.Documents.{DefinitionTree, IsDocument}
use Rattle.document_reader.specs.Trees.{definition_tree}
use Rattle.document_reader.specs.DocumentAnswers.{HasDocument}
use Rattle.document_reader.specs.PrintedDocuments.{document_symbols}
use Rattle.document_reader.specs.PlacelessDocuments.{document_placeless}
use Rattle.document_reader.proofs.AlikeDocuments.{document_alike}
use Rattle.document_reader.proofs.PrintedDocumentLaws.{document_rewritten}
use Rattle.document_reader.proofs.PlacelessTwice.{document_placeless_twice}
use Rattle.document_reader.proofs.BareDocuments.{document_textual}
use Rattle.document_reader.proofs.DocumentLaws.{document_family}
use Rattle.document_rules.specs.Checking.{reached_by}
use Rattle.acceptance.specs.Requests.{RequestData, Prepared}
use Rattle.acceptance.specs.Forwarding.{IsFreeIn, sent_document, sent_text}
use Rattle.sent_documents.specs.SentTexts.{IsClientText}
use Rattle.sent_documents.proofs.SendableParts.{Sendable, sendable_symbols, within_limit, all_textual}
use Rattle.sent_documents.proofs.SendableSelections.{alias_textual}
use Rattle.sent_documents.proofs.SendableDocuments.{document_sendable, rewritten_sendable}

sendable : (r : RequestData) (p : Prepared r) (alias text : List ℕ) → IsFreeIn r alias → IsClientText r text → Sendable (has_floats r.schema) (IsDocument (sent_document r p alias))
sendable r p alias text free is =
    let w = is.spells.2 in
    let name : IsTextual (has_floats r.schema) (identifier alias 0) = subst (λ (bytes : List ℕ). IsTextual (has_floats r.schema) (identifier bytes 0)) (sym free.is) (alias_textual (has_floats r.schema) free.underscores) in
    rewritten_sendable (has_floats r.schema) r.schema alias name r.document p.keeps.0.0 p.root p.operation (reached_by r.document p.operation)
    (document_sendable (has_floats r.schema) (map definition_tree r.document) w.front w.written (sendable_symbols (has_floats r.schema) w.front w.within (spelled_textual (has_floats r.schema) text (map definition_tree r.document) is.utf8 is.spells)))
    p.keeps.0.2

spelled_back : (floats : Bool) (trees : List DefinitionTree) → Sendable floats (IsDocument trees) → SpellsAgain floats IsDocument document_placeless (printed (document_symbols trees)) trees
spelled_back floats trees d =
    let r = document_rewritten level_limit trees d.front d.written (within_limit floats d.front d.sendable) in
    again_of_same floats (printed (document_symbols trees)) (document_placeless trees) trees
    (spelled_again floats document_alike (document_placeless trees) r.front (document_symbols trees) r.written r.within (ap (map placeless_symbol) r.same) (document_textual floats trees d.front d.written (all_textual floats d.front d.sendable)))
    (document_placeless_twice trees)

pub sent_reads_back : (r : RequestData) (p : Prepared r) (alias text : List ℕ) → IsFreeIn r alias → IsClientText r text → SpellsAgain (has_floats r.schema) IsDocument document_placeless (sent_text r p alias) (sent_document r p alias)
sent_reads_back r p alias text free is = spelled_back (has_floats r.schema) (sent_document r p alias) (sendable r p alias text free is)

pub sent_in_utf8 : (r : RequestData) (p : Prepared r) (alias text : List ℕ) → IsFreeIn r alias → IsClientText r text → IsUtf8 (sent_text r p alias)
sent_in_utf8 r p alias text free is =
    let d = sendable r p alias text free is in
    let all = document_textual (has_floats r.schema) (sent_document r p alias) d.front d.written (all_textual (has_floats r.schema) d.front d.sendable) in
    printed_utf8 (has_floats r.schema) (document_symbols (sent_document r p alias)) all

pub sent_alone : (r : RequestData) (p : Prepared r) (alias text : List ℕ) (trees : List DefinitionTree) → IsFreeIn r alias → IsClientText r text → HasDocument (has_floats r.schema) (sent_text r p alias) trees → document_placeless trees ≡ document_placeless (sent_document r p alias)
sent_alone r p alias text trees free is has =
    let back = sent_reads_back r p alias text free is in
    ap document_placeless (one_tree_of (has_floats r.schema) document_family (sent_text r p alias) trees back.again has (back.tokens, back.lexes, back.written)) ∙ back.same
