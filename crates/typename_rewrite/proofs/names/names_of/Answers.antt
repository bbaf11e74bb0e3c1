use Rattle.std.proofs.Common.{map, sym, ◌∙◌}
use Rattle.document_reader.specs.Trees.{definition_tree}
use Rattle.document_reader.specs.PrintedDocuments.{definition_symbols}
use Rattle.typename_rewrite.specs.AddedNames.{names_in}
use Rattle.typename_rewrite.specs.Views.{word_text}
use Rattle.typename_rewrite.proofs.WordSteps.{next_names, names_end, names_of_all}
use Rattle.typename_rewrite.proofs.names.names_of.Goals as goal

pub loop-definition-preserved : goal.loop-definition-preserved
loop-definition-preserved c = next_names (λ d. names_in (definition_symbols (definition_tree d))) (map word_text c.loop-definition.words.items) (map word_text c.add_definition.new.words.items) _ c.args.definitions.now c.loop-definition.definition-index c.definition-item.result c.loop-definition-test.true c.definition-item.is c.in_ok-add_definition.ensures c.loop-definition.invariant

pub returns : goal.returns
returns c = names_end (λ d. names_in (definition_symbols (definition_tree d))) (map word_text c.loop-definition.words.items) _ c.args.definitions.now c.loop-definition.definition-index c.loop-definition-test.false c.loop-definition.invariant
    ∙ sym (names_of_all definition_tree definition_symbols c.args.definitions.now)
