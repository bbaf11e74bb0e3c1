-- What is printed of a document has tokens of its own, which are the same document but for the offsets of names.
use Rattle.std.proofs.Common.{ℕ, List, All, IsUtf8, ap, Bool}
use Rattle.std.specs.Prelude.{map}
use Rattle.gql_base.specs.ways.FirstFaults.{level_limit}
use Rattle.gql_base.specs.printing.Printing.{printed}
use Rattle.gql_base.specs.printing.PlacelessSymbols.{placeless_symbol}
use Rattle.gql_base.specs.printing.PrintableSymbols.{IsTextual}
use Rattle.gql_base.specs.printing.ReadingBack.{SpellsAgain}
use Rattle.gql_base.proofs.PrintingLaws.PrintedPieces.{printed_utf8}
use Rattle.gql_base.proofs.PrintingLaws.PrintedAgain.{spelled_textual, spelled_again, again_of_same}
use Rattle.document_reader.specs.Documents.{DefinitionTree, IsDocument}
use Rattle.document_reader.specs.DocumentAnswers.{HasDocument}
use Rattle.document_reader.specs.PrintedDocuments.{document_symbols}
use Rattle.document_reader.specs.PlacelessDocuments.{document_placeless}
use Rattle.document_reader.proofs.AlikeDocuments.{document_alike}
use Rattle.document_reader.proofs.PrintedDocumentLaws.{document_rewritten}
use Rattle.document_reader.proofs.PlacelessTwice.{document_placeless_twice}
use Rattle.document_reader.proofs.BareDocuments.{document_textual}

textual_symbols : (floats : Bool) (text : List ℕ) (trees : List DefinitionTree) → IsUtf8 text → HasDocument floats text trees → All (IsTextual floats) (document_symbols trees)
textual_symbols floats text trees utf8 s = document_textual floats trees s.2.front s.2.written (spelled_textual floats text trees utf8 s)

pub reads_back : (floats : Bool) (text : List ℕ) (trees : List DefinitionTree) → IsUtf8 text → HasDocument floats text trees → SpellsAgain floats IsDocument document_placeless (printed (document_symbols trees)) trees
reads_back floats text trees utf8 s =
    let r = document_rewritten level_limit trees s.2.front s.2.written s.2.within in
    again_of_same floats (printed (document_symbols trees)) (document_placeless trees) trees
    (spelled_again floats document_alike (document_placeless trees) r.front (document_symbols trees) r.written r.within (ap (map placeless_symbol) r.same) (textual_symbols floats text trees utf8 s))
    (document_placeless_twice trees)

pub printed_in_utf8 : (floats : Bool) (text : List ℕ) (trees : List DefinitionTree) → IsUtf8 text → HasDocument floats text trees → IsUtf8 (printed (document_symbols trees))
printed_in_utf8 floats text trees utf8 s = let all = textual_symbols floats text trees utf8 s in printed_utf8 floats (document_symbols trees) all
