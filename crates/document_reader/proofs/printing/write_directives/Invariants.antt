use Rattle.std.proofs.Common.{◌≡◌, drop, map}
use Rattle.std.specs.List.{flat_map}
use Rattle.gql_base.specs.printing.Printing.{put_all}
use Rattle.gql_base.specs.printing.Printers.{printed_by}
use Rattle.gql_base.specs.parts.Trees.{directive_tree}
use Rattle.document_reader.specs.PrintedDocuments.{directive_symbols}
use Rattle.document_reader.proofs.printing.write_directives.Given as goal

abbrev pub invariant-loop-directive : goal.invariant-loop-directive
invariant-loop-directive l = put_all (printed_by l.printer) (flat_map directive_symbols (map directive_tree (drop l.directive-index l.directives))) ≡ put_all (printed_by l.fn.printer) (flat_map directive_symbols (map directive_tree l.directives))
