use Rattle.std.proofs.Common.{◌++◌, map, sym, ap, ◌∙◌}
use Rattle.gql_base.specs.printing.PrintedTrees.{value_symbols}
use Rattle.gql_base.specs.parts.Trees.{value_tree, named_value}
use Rattle.document_reader.specs.PrintedDocuments.{argument_symbols}
use Rattle.typename_rewrite.specs.AddedNames.{names_in}
use Rattle.typename_rewrite.specs.Views.{word_text}
use Rattle.typename_rewrite.proofs.WordSteps.{next_names, names_end, names_of_values, names_of_fields}
use Rattle.typename_rewrite.proofs.words.+words.Goals as goal

pub add_values-loop-item-preserved : goal.add_values-loop-item-preserved
add_values-loop-item-preserved t c = next_names (λ v. names_in (value_symbols (value_tree v))) (map word_text c.loop-item.words.items) (map word_text c.add_value.new.words.items) _ c.args.items.now c.loop-item.item-index c.item-item.result c.loop-item-test.true c.item-item.is c.in_ok-add_value.ensures c.loop-item.invariant

pub add_values-returns : goal.add_values-returns
add_values-returns t c = names_end (λ v. names_in (value_symbols (value_tree v))) (map word_text c.loop-item.words.items) _ c.args.items.now c.loop-item.item-index c.loop-item-test.false c.loop-item.invariant
    ∙ ap (λ l. map word_text c.args.words.now.items ++ l) (sym (names_of_values c.args.items.now))

pub add_arguments-loop-argument-preserved : goal.add_arguments-loop-argument-preserved
add_arguments-loop-argument-preserved t c = next_names (λ a. names_in (argument_symbols (named_value a))) (map word_text c.loop-argument.words.items) (map word_text c.add_argument.new.words.items) _ c.args.arguments.now c.loop-argument.argument-index c.argument-item.result c.loop-argument-test.true c.argument-item.is c.in_ok-add_argument.ensures c.loop-argument.invariant

pub add_arguments-returns : goal.add_arguments-returns
add_arguments-returns t c = names_end (λ a. names_in (argument_symbols (named_value a))) (map word_text c.loop-argument.words.items) _ c.args.arguments.now c.loop-argument.argument-index c.loop-argument-test.false c.loop-argument.invariant
    ∙ ap (λ l. map word_text c.args.words.now.items ++ l) (sym (names_of_fields c.args.arguments.now))
