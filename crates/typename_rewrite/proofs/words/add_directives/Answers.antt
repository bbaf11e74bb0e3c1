use Rattle.std.proofs.Common.{◌++◌, map, sym, ap, ◌∙◌}
use Rattle.gql_base.specs.parts.Trees.{directive_tree}
use Rattle.document_reader.specs.PrintedDocuments.{directive_symbols}
use Rattle.typename_rewrite.specs.AddedNames.{names_in}
use Rattle.typename_rewrite.specs.Views.{word_text}
use Rattle.typename_rewrite.proofs.WordSteps.{next_names, names_end, names_of_all}
use Rattle.typename_rewrite.proofs.words.add_directives.Goals as goal

pub loop-directive-preserved : goal.loop-directive-preserved
loop-directive-preserved c = next_names (λ d. names_in (directive_symbols (directive_tree d))) (map word_text c.loop-directive.words.items) (map word_text c.add_directive.new.words.items) _ c.args.directives.now c.loop-directive.directive-index c.directive-item.result c.loop-directive-test.true c.directive-item.is c.in_ok-add_directive.ensures c.loop-directive.invariant

pub returns : goal.returns
returns c = names_end (λ d. names_in (directive_symbols (directive_tree d))) (map word_text c.loop-directive.words.items) _ c.args.directives.now c.loop-directive.directive-index c.loop-directive-test.false c.loop-directive.invariant
    ∙ ap (λ l. map word_text c.args.words.now.items ++ l) (sym (names_of_all directive_tree directive_symbols c.args.directives.now))
