use Rattle.std.proofs.Common.{map, ap, ◌∙◌}
use Rattle.gql_base.specs.printing.Printing.{put_all}
use Rattle.gql_base.specs.printing.Printers.{printed_by}
use Rattle.document_reader.specs.PrintedDocuments.{definition_symbols, document_symbols}
use Rattle.schema_model.specs.SchemaViews.{schema_data}
use Rattle.document_rules.specs.Parts.{fragment_data}
use Rattle.typename_rewrite.specs.Rewriting.{rewritten_operation, rewritten_definition}
use Rattle.typename_rewrite.proofs.AddingSteps.{document_put}
use Rattle.typename_rewrite.proofs.rewriting.text_with.Goals as goal

pub returns : goal.returns
returns c =
    let s = schema_data c.args.schema.now in
    let alias = c.args.alias.now in
    let checked = c.args.checked.now in
    c.finish.ensures ∙ ap (λ p. p.0) (document_put s alias checked.root.number checked.operation.now checked.fragments.items _ (printed_by c.write_operation.new.printer) (printed_by c.write_fragments.new.printer)
    (c.in_ok-write_operation.ensures ∙ (ap (λ p. put_all p (definition_symbols (rewritten_operation s alias c.root.result.number c.operation.result.now))) c.new-printer.ensures
    ∙ (ap (λ n. put_all _ (definition_symbols (rewritten_operation s alias n.number c.operation.result.now))) c.root.ensures ∙ ap (λ o. put_all _ (definition_symbols (rewritten_operation s alias checked.root.number o))) c.operation.ensures)))
    (c.in_ok-write_fragments.ensures ∙ ap (λ l. put_all (printed_by c.write_operation.new.printer) (document_symbols (map (λ f. rewritten_definition s alias (fragment_data f.now)) l))) c.fragments.ensures))
