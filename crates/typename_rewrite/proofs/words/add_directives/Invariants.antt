use Rattle.std.proofs.Common.{◌≡◌, ◌++◌, drop, map}
use Rattle.std.specs.List.{flat_map}
use Rattle.gql_base.specs.parts.Trees.{directive_tree}
use Rattle.document_reader.specs.PrintedDocuments.{directive_symbols}
use Rattle.typename_rewrite.specs.AddedNames.{names_in}
use Rattle.typename_rewrite.specs.Views.{word_text}
use Rattle.typename_rewrite.proofs.words.add_directives.Given as goal

abbrev pub invariant-loop-directive : goal.invariant-loop-directive
invariant-loop-directive l = map word_text l.words.items ++ flat_map (λ d. names_in (directive_symbols (directive_tree d))) (drop l.directive-index l.directives) ≡ map word_text l.fn.words.items ++ flat_map (λ d. names_in (directive_symbols (directive_tree d))) l.directives
