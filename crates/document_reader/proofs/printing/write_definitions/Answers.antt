use Rattle.std.proofs.Common.{sym, ◌∙◌}
use Rattle.gql_base.specs.printing.Printers.{printed_by}
use Rattle.document_reader.specs.Trees.{definition_tree}
use Rattle.document_reader.specs.PrintedDocuments.{definition_symbols}
use Rattle.document_reader.proofs.PrintingSteps.{next_item, no_item}
use Rattle.document_reader.proofs.printing.write_definitions.Goals as goal

pub loop-definition-preserved : goal.loop-definition-preserved
loop-definition-preserved c = next_item definition_tree definition_symbols (printed_by c.loop-definition.printer) (printed_by c.write_definition.new.printer) c.args.definitions.now c.loop-definition.definition-index c.definition-item.result c.loop-definition-test.true c.definition-item.is c.in_ok-write_definition.ensures ∙ c.loop-definition.invariant

pub returns : goal.returns
returns c = sym (no_item definition_tree definition_symbols (printed_by c.loop-definition.printer) c.args.definitions.now c.loop-definition.definition-index c.loop-definition-test.false) ∙ c.loop-definition.invariant
