use Rattle.std.proofs.Common.{[], ◌∷◌, map, sym, ◌∙◌}
use Rattle.document_reader.specs.Trees.{variable_tree}
use Rattle.document_rules.proofs.Lists.{map_twice}
use Rattle.std.proofs.lemmas.List.Concat.{flat_map_single}
use Rattle.typename_rewrite.specs.ForwardedBodies.{variable_name}
use Rattle.typename_rewrite.specs.Views.{word_text}
use Rattle.typename_rewrite.proofs.WordSteps.{next_names, names_end}
use Rattle.typename_rewrite.proofs.body.variable_words.Goals as goal

pub loop-variable-preserved : goal.loop-variable-preserved
loop-variable-preserved c = next_names (λ v. variable_name (variable_tree v) ∷ []) (map word_text c.loop-variable.words.items) (map word_text c.add_name.new.words.items) _ c.args.variables.now c.loop-variable.variable-index c.variable-item.result c.loop-variable-test.true c.variable-item.is
    (c.in_ok-add_name.ensures) c.loop-variable.invariant

pub returns : goal.returns
returns c = names_end (λ v. variable_name (variable_tree v) ∷ []) (map word_text c.loop-variable.words.items) _ c.args.variables.now c.loop-variable.variable-index c.loop-variable-test.false c.loop-variable.invariant
    ∙ (flat_map_single (λ v. variable_name (variable_tree v)) c.args.variables.now ∙ sym (map_twice variable_name variable_tree c.args.variables.now))
