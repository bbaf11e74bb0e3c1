use Rattle.std.proofs.Common.{sym, ◌∙◌}
use Rattle.gql_base.specs.printing.Printers.{printed_by}
use Rattle.document_reader.specs.Trees.{variable_tree}
use Rattle.document_reader.specs.PrintedDocuments.{variable_symbols}
use Rattle.document_reader.proofs.PrintingSteps.{next_item, no_item}
use Rattle.document_reader.proofs.printing.write_variables.Goals as goal

pub loop-variable-preserved : goal.loop-variable-preserved
loop-variable-preserved c = next_item variable_tree variable_symbols (printed_by c.loop-variable.printer) (printed_by c.write_variable.new.printer) c.args.variables.now c.loop-variable.variable-index c.variable-item.result c.loop-variable-test.true c.variable-item.is c.in_ok-write_variable.ensures ∙ c.loop-variable.invariant

pub returns : goal.returns
returns c = sym (no_item variable_tree variable_symbols (printed_by c.loop-variable.printer) c.args.variables.now c.loop-variable.variable-index c.loop-variable-test.false) ∙ c.loop-variable.invariant
