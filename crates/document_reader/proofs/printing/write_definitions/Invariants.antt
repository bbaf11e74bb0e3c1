use Rattle.std.proofs.Common.{◌≡◌, drop, map}
use Rattle.std.specs.List.{flat_map}
use Rattle.gql_base.specs.printing.Printing.{put_all}
use Rattle.gql_base.specs.printing.Printers.{printed_by}
use Rattle.document_reader.specs.Trees.{definition_tree}
use Rattle.document_reader.specs.PrintedDocuments.{definition_symbols}
use Rattle.document_reader.proofs.printing.write_definitions.Given as goal

abbrev pub invariant-loop-definition : goal.invariant-loop-definition
invariant-loop-definition l = put_all (printed_by l.printer) (flat_map definition_symbols (map definition_tree (drop l.definition-index l.definitions))) ≡ put_all (printed_by l.fn.printer) (flat_map definition_symbols (map definition_tree l.definitions))
