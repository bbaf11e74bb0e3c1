use Rattle.std.proofs.Common.{◌≡◌, ◌++◌, [], ◌∷◌, drop, map}
use Rattle.std.specs.List.{flat_map}
use Rattle.document_reader.specs.Trees.{variable_tree}
use Rattle.typename_rewrite.specs.ForwardedBodies.{variable_name}
use Rattle.typename_rewrite.specs.Views.{word_text}
use Rattle.typename_rewrite.proofs.body.variable_words.Given as goal

abbrev pub invariant-loop-variable : goal.invariant-loop-variable
invariant-loop-variable l = map word_text l.words.items ++ flat_map (λ v. variable_name (variable_tree v) ∷ []) (drop l.variable-index l.variables) ≡ flat_map (λ v. variable_name (variable_tree v) ∷ []) l.variables
