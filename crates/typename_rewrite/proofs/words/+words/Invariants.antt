use Rattle.std.proofs.Common.{◌≡◌, ◌++◌, drop, map}
use Rattle.std.specs.List.{flat_map}
use Rattle.gql_base.specs.printing.PrintedTrees.{value_symbols}
use Rattle.gql_base.specs.parts.Trees.{value_tree, named_value}
use Rattle.document_reader.specs.PrintedDocuments.{argument_symbols}
use Rattle.typename_rewrite.specs.AddedNames.{names_in}
use Rattle.typename_rewrite.specs.Views.{word_text}
use Rattle.typename_rewrite.proofs.words.+words.Given as goal

abbrev pub invariant-add_values-loop-item : goal.invariant-add_values-loop-item
invariant-add_values-loop-item l = map word_text l.words.items ++ flat_map (λ v. names_in (value_symbols (value_tree v))) (drop l.item-index l.items) ≡ map word_text l.fn.words.items ++ flat_map (λ v. names_in (value_symbols (value_tree v))) l.items

abbrev pub invariant-add_arguments-loop-argument : goal.invariant-add_arguments-loop-argument
invariant-add_arguments-loop-argument l = map word_text l.words.items ++ flat_map (λ a. names_in (argument_symbols (named_value a))) (drop l.argument-index l.arguments) ≡ map word_text l.fn.words.items ++ flat_map (λ a. names_in (argument_symbols (named_value a))) l.arguments
