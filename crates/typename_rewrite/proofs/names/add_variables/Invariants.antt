use Rattle.std.proofs.Common.{◌≡◌, ◌++◌, drop, map}
use Rattle.std.specs.List.{flat_map}
use Rattle.document_reader.specs.Trees.{variable_tree}
use Rattle.document_reader.specs.PrintedDocuments.{variable_symbols}
use Rattle.typename_rewrite.specs.AddedNames.{names_in}
use Rattle.typename_rewrite.specs.Views.{word_text}
use Rattle.typename_rewrite.proofs.names.add_variables.Given as goal

abbrev pub invariant-loop-variable : goal.invariant-loop-variable
invariant-loop-variable l = map word_text l.words.items ++ flat_map (λ v. names_in (variable_symbols (variable_tree v))) (drop l.variable-index l.variables) ≡ map word_text l.fn.words.items ++ flat_map (λ v. names_in (variable_symbols (variable_tree v))) l.variables
