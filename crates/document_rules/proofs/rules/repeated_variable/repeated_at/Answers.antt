use Rattle.std.proofs.Common.{◌<◌, length, refl, sym, ap, ◌∙◌, subst}
use Rattle.std.specs.Prelude.{IfSome}
use Rattle.document_rules.specs.Parts.{repeated_at}
use Rattle.document_rules.proofs.Repeats.{repeated_there, not_repeated}
use Rattle.document_rules.specs.declared.indexes.Declared.{Declared}
use Rattle.document_rules.specs.Rules.{variable_identifier}
use Rattle.document_rules.specs.Views.{declared_tree}
use Rattle.document_rules.proofs.Lists.{map_twice}
use Rattle.document_rules.proofs.rules.repeated_variable.repeated_at.Goals as goal

pub returns-in-Some : goal.returns-in-Some
returns-in-Some c = repeated_there (λ (d : Declared). variable_identifier (declared_tree d)) (λ (d : Declared). d.variable.now.name.text) (λ d. refl) c.args.declared.now c.in-Some.place c.index-declared-place.result _ (sym c.in-Some.is ∙ c.in_ok-place.ensures.place)
    (subst (λ o. IfSome o (λ at. at < length c.args.declared.now)) c.in-Some.is c.in_ok-place.ensures.within) c.index-declared-place.is (ap (λ (d : Declared). d.variable.now.name.at) (sym c.index-declared-place.is)) ∙ ap repeated_at (sym (map_twice variable_identifier declared_tree c.args.declared.now))

pub returns-in-None : goal.returns-in-None
returns-in-None c = not_repeated (λ (d : Declared). variable_identifier (declared_tree d)) (λ (d : Declared). d.variable.now.name.text) (λ d. refl) c.args.declared.now (sym c.in-None.is ∙ c.in_ok-place.ensures.place) ∙ ap repeated_at (sym (map_twice variable_identifier declared_tree c.args.declared.now))
