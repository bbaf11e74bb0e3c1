use Rattle.std.proofs.Common.{map, sym, ap, ◌∙◌}
use Rattle.std.specs.Prelude.{option_map}
use Rattle.std.proofs.lemmas.Result.{on_ok_weaker}
use Rattle.gql_base.specs.printing.Printers.{printed_by}
use Rattle.schema_model.specs.Numbers.{type_number}
use Rattle.schema_model.specs.SchemaViews.{schema_data}
use Rattle.gql_base.specs.printing.Printing.{put_all}
use Rattle.gql_base.specs.parts.Trees.{named_value, directive_tree}
use Rattle.document_reader.specs.Trees.{set_tree}
use Rattle.document_reader.specs.PrintedDocuments.{arguments_symbols, directives_symbols, selection_symbols, set_symbols}
use Rattle.typename_rewrite.specs.Rewriting.{ended, rewritten_selections}
use Rattle.typename_rewrite.proofs.AddingSteps.{four_put, field_added}
use Rattle.document_reader.proofs.PrintingSteps.{next_item, no_item}
use Rattle.typename_rewrite.specs.Views.{selection_by}
use Rattle.typename_rewrite.proofs.adding.+adding.Goals as goal

pub write_selections-loop-selection-preserved : goal.write_selections-loop-selection-preserved
write_selections-loop-selection-preserved t c = next_item (selection_by c.args.by c.args.parent) selection_symbols (printed_by c.loop-selection.printer) (printed_by c.write_selection.new.printer) c.args.selections.now c.loop-selection.selection-index c.selection-item.result c.loop-selection-test.true c.selection-item.is c.in_ok-write_selection.ensures ∙ c.loop-selection.invariant

pub write_selections-returns : goal.write_selections-returns
write_selections-returns t c = sym (no_item (selection_by c.args.by c.args.parent) selection_symbols (printed_by c.loop-selection.printer) c.args.selections.now c.loop-selection.selection-index c.loop-selection-test.false) ∙ c.loop-selection.invariant

pub write_field-returns : goal.write_field-returns
write_field-returns t c =
    let s = schema_data c.args.by.schema.now in
    let alias = c.args.by.alias.now in
    let below = option_map type_number c.below_name-below.result in
    on_ok_weaker c.write_set.result (λ e. four_put (printed_by c.args.printer.now) (printed_by c.write_names.new.printer) (printed_by c.write_argument_list.new.printer) (printed_by c.write_directives.new.printer) (printed_by c.write_set.new.printer) _ (arguments_symbols (map named_value c.args.field.now.arguments.items)) (directives_symbols (map directive_tree c.args.field.now.directives.items)) (set_symbols (ended alias c.is_abstract-asked.result (rewritten_selections s alias below (set_tree c.args.field.now.selections.items)))) _
    c.in_ok-write_names.ensures (c.in_ok-write_argument_list.ensures ∙ ap (λ l. put_all (printed_by c.write_names.new.printer) (arguments_symbols (map named_value l))) c.as_slice.ensures.value)
    (c.in_ok-write_directives.ensures ∙ ap (λ l. put_all (printed_by c.write_argument_list.new.printer) (directives_symbols (map directive_tree l))) c.as_slice-2.ensures.value)
    (e ∙ ap (λ l. put_all (printed_by c.write_directives.new.printer) (set_symbols (ended alias c.is_abstract-asked.result (rewritten_selections s alias below (set_tree l))))) c.as_slice-3.ensures.value)
    (field_added s alias (option_map type_number c.args.parent) c.args.field.now c.as_str.result.now below c.is_abstract-asked.result c.as_str.ensures c.below_name-below.ensures c.is_abstract-asked.ensures)) c.write_set.ensures
