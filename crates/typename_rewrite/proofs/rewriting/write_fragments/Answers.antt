use Rattle.std.proofs.Common.{sym, ◌∙◌}
use Rattle.gql_base.specs.printing.Printers.{printed_by}
use Rattle.document_reader.specs.PrintedDocuments.{definition_symbols}
use Rattle.document_reader.proofs.PrintingSteps.{next_item, no_item}
use Rattle.typename_rewrite.specs.Views.{fragment_by}
use Rattle.typename_rewrite.proofs.rewriting.write_fragments.Goals as goal

pub loop-fragment-preserved : goal.loop-fragment-preserved
loop-fragment-preserved c = next_item (λ f. fragment_by c.args.by f.now) definition_symbols (printed_by c.loop-fragment.printer) (printed_by c.write_fragment.new.printer) c.args.fragments.now c.loop-fragment.fragment-index c.fragment-item.result c.loop-fragment-test.true c.fragment-item.is c.in_ok-write_fragment.ensures ∙ c.loop-fragment.invariant

pub returns : goal.returns
returns c = sym (no_item (λ f. fragment_by c.args.by f.now) definition_symbols (printed_by c.loop-fragment.printer) c.args.fragments.now c.loop-fragment.fragment-index c.loop-fragment-test.false) ∙ c.loop-fragment.invariant
