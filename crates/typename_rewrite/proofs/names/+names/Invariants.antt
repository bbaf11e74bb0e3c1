use Rattle.std.proofs.Common.{◌≡◌, ◌++◌, drop, map}
use Rattle.std.specs.List.{flat_map}
use Rattle.document_reader.specs.Trees.{selection_tree}
use Rattle.document_reader.specs.PrintedDocuments.{selection_symbols}
use Rattle.typename_rewrite.specs.AddedNames.{names_in}
use Rattle.typename_rewrite.specs.Views.{word_text}
use Rattle.typename_rewrite.proofs.names.+names.Given as goal

abbrev pub invariant-add_set-loop-selection : goal.invariant-add_set-loop-selection
invariant-add_set-loop-selection l = map word_text l.words.items ++ flat_map (λ x. names_in (selection_symbols (selection_tree x))) (drop l.selection-index l.selections) ≡ map word_text l.fn.words.items ++ flat_map (λ x. names_in (selection_symbols (selection_tree x))) l.selections
