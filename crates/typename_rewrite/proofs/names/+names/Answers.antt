use Rattle.std.proofs.Common.{◌++◌, map, sym, ap, ◌∙◌}
use Rattle.document_reader.specs.Trees.{selection_tree}
use Rattle.document_reader.specs.PrintedDocuments.{selection_symbols}
use Rattle.typename_rewrite.specs.AddedNames.{names_in}
use Rattle.typename_rewrite.specs.Views.{word_text}
use Rattle.typename_rewrite.proofs.WordSteps.{next_names, names_end}
use Rattle.typename_rewrite.proofs.NameSteps.{names_of_set}
use Rattle.typename_rewrite.proofs.names.+names.Goals as goal

pub add_set-loop-selection-preserved : goal.add_set-loop-selection-preserved
add_set-loop-selection-preserved t c = next_names (λ x. names_in (selection_symbols (selection_tree x))) (map word_text c.loop-selection.words.items) (map word_text c.add_selection.new.words.items) _ c.args.selections.now c.loop-selection.selection-index c.selection-item.result c.loop-selection-test.true c.selection-item.is c.in_ok-add_selection.ensures c.loop-selection.invariant

pub add_set-returns : goal.add_set-returns
add_set-returns t c = names_end (λ x. names_in (selection_symbols (selection_tree x))) (map word_text c.loop-selection.words.items) _ c.args.selections.now c.loop-selection.selection-index c.loop-selection-test.false c.loop-selection.invariant
    ∙ ap (λ l. map word_text c.args.words.now.items ++ l) (sym (names_of_set c.args.selections.now))
