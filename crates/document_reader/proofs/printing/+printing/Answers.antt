use Rattle.std.proofs.Common.{sym, ◌∙◌}
use Rattle.gql_base.specs.printing.Printers.{printed_by}
use Rattle.document_reader.specs.Trees.{selection_tree}
use Rattle.document_reader.specs.PrintedDocuments.{selection_symbols}
use Rattle.document_reader.proofs.PrintingSteps.{next_item, no_item}
use Rattle.document_reader.proofs.printing.+printing.Goals as goal

pub write_selections-loop-selection-preserved : goal.write_selections-loop-selection-preserved
write_selections-loop-selection-preserved t c = next_item selection_tree selection_symbols (printed_by c.loop-selection.printer) (printed_by c.write_selection.new.printer) c.args.selections.now c.loop-selection.selection-index c.selection-item.result c.loop-selection-test.true c.selection-item.is c.in_ok-write_selection.ensures ∙ c.loop-selection.invariant

pub write_selections-returns : goal.write_selections-returns
write_selections-returns t c = sym (no_item selection_tree selection_symbols (printed_by c.loop-selection.printer) c.args.selections.now c.loop-selection.selection-index c.loop-selection-test.false) ∙ c.loop-selection.invariant
