use Rattle.std.proofs.Common.{◌≡◌, drop}
use Rattle.gql_base.specs.printing.Printing.{put_all}
use Rattle.gql_base.specs.printing.Printers.{printed_by}
use Rattle.document_reader.specs.PrintedDocuments.{document_symbols}
use Rattle.typename_rewrite.specs.Views.{fragments_by}
use Rattle.typename_rewrite.proofs.rewriting.write_fragments.Given as goal

abbrev pub invariant-loop-fragment : goal.invariant-loop-fragment
invariant-loop-fragment l = put_all (printed_by l.printer) (document_symbols (fragments_by l.by (drop l.fragment-index l.fragments))) ≡ put_all (printed_by l.fn.printer) (document_symbols (fragments_by l.by l.fragments))
