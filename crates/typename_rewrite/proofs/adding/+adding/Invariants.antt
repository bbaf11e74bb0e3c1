use Rattle.std.proofs.Common.{◌≡◌, drop, map}
use Rattle.std.specs.List.{flat_map}
use Rattle.gql_base.specs.printing.Printing.{put_all}
use Rattle.gql_base.specs.printing.Printers.{printed_by}
use Rattle.document_reader.specs.PrintedDocuments.{selection_symbols}
use Rattle.typename_rewrite.specs.Views.{selection_by}
use Rattle.typename_rewrite.proofs.adding.+adding.Given as goal

abbrev pub invariant-write_selections-loop-selection : goal.invariant-write_selections-loop-selection
invariant-write_selections-loop-selection l = put_all (printed_by l.printer) (flat_map selection_symbols (map (selection_by l.by l.parent) (drop l.selection-index l.selections))) ≡ put_all (printed_by l.fn.printer) (flat_map selection_symbols (map (selection_by l.by l.parent) l.selections))
