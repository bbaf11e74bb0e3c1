use Rattle.std.proofs.Common.{◌≡◌, drop, map}
use Rattle.std.specs.List.{flat_map}
use Rattle.gql_base.specs.printing.Printing.{put_all}
use Rattle.gql_base.specs.printing.Printers.{printed_by}
use Rattle.document_reader.specs.Trees.{variable_tree}
use Rattle.document_reader.specs.PrintedDocuments.{variable_symbols}
use Rattle.document_reader.proofs.printing.write_variables.Given as goal

abbrev pub invariant-loop-variable : goal.invariant-loop-variable
invariant-loop-variable l = put_all (printed_by l.printer) (flat_map variable_symbols (map variable_tree (drop l.variable-index l.variables))) ≡ put_all (printed_by l.fn.printer) (flat_map variable_symbols (map variable_tree l.variables))
