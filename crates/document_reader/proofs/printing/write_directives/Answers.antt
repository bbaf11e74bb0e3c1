use Rattle.std.proofs.Common.{sym, ◌∙◌}
use Rattle.gql_base.specs.printing.Printers.{printed_by}
use Rattle.gql_base.specs.parts.Trees.{directive_tree}
use Rattle.document_reader.specs.PrintedDocuments.{directive_symbols}
use Rattle.document_reader.proofs.PrintingSteps.{next_item, no_item}
use Rattle.document_reader.proofs.printing.write_directives.Goals as goal

pub loop-directive-preserved : goal.loop-directive-preserved
loop-directive-preserved c = next_item directive_tree directive_symbols (printed_by c.loop-directive.printer) (printed_by c.write_directive.new.printer) c.args.directives.now c.loop-directive.directive-index c.directive-item.result c.loop-directive-test.true c.directive-item.is c.in_ok-write_directive.ensures ∙ c.loop-directive.invariant

pub returns : goal.returns
returns c = sym (no_item directive_tree directive_symbols (printed_by c.loop-directive.printer) c.args.directives.now c.loop-directive.directive-index c.loop-directive-test.false) ∙ c.loop-directive.invariant
