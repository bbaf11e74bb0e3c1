use Rattle.std.proofs.Common.{◌++◌, map, sym, ap, ◌∙◌}
use Rattle.document_reader.specs.Trees.{variable_tree}
use Rattle.document_reader.specs.PrintedDocuments.{variable_symbols}
use Rattle.typename_rewrite.specs.AddedNames.{names_in}
use Rattle.typename_rewrite.specs.Views.{word_text}
use Rattle.typename_rewrite.proofs.WordSteps.{next_names, names_end, names_in_parentheses}
use Rattle.typename_rewrite.proofs.names.add_variables.Goals as goal

pub loop-variable-preserved : goal.loop-variable-preserved
loop-variable-preserved c = next_names (λ v. names_in (variable_symbols (variable_tree v))) (map word_text c.loop-variable.words.items) (map word_text c.add_variable.new.words.items) _ c.args.variables.now c.loop-variable.variable-index c.variable-item.result c.loop-variable-test.true c.variable-item.is c.in_ok-add_variable.ensures c.loop-variable.invariant

pub returns : goal.returns
returns c = names_end (λ v. names_in (variable_symbols (variable_tree v))) (map word_text c.loop-variable.words.items) _ c.args.variables.now c.loop-variable.variable-index c.loop-variable-test.false c.loop-variable.invariant
    ∙ ap (λ l. map word_text c.args.words.now.items ++ l) (sym (names_in_parentheses variable_tree variable_symbols c.args.variables.now))
