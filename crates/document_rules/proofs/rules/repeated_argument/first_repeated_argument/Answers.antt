use Rattle.std.proofs.Common.{◌<◌, length, sym, ap, ◌∙◌, subst}
use Rattle.std.specs.Prelude.{IfSome}
use Rattle.document_rules.specs.Parts.{repeated_at}
use Rattle.document_rules.proofs.Repeats.{repeated_there, not_repeated}
use Rattle.gql_base.specs.declared.parts.trees.Argument.{Argument}
use Rattle.gql_base.specs.parts.Values.{NamedValue}
use Rattle.gql_base.specs.parts.Trees.{named_value}
use Rattle.gql_base.proofs.PrintingLaws.PrintSteps.{open_argument}
use Rattle.document_rules.specs.Rules.{argument_identifier}
use Rattle.document_rules.proofs.Lists.{map_twice}
use Rattle.document_rules.proofs.rules.repeated_argument.first_repeated_argument.Goals as goal

pub returns-in-Some : goal.returns-in-Some
returns-in-Some c = repeated_there (λ (a : Argument). (named_value a).0) (λ (a : Argument). a.name.text) (λ a. sym (ap (λ (v : NamedValue). v.0.0) (open_argument a))) c.args.arguments.now c.in-Some.place c.index-arguments-place.result _ (sym c.in-Some.is ∙ c.in_ok-place.ensures.place)
    (subst (λ o. IfSome o (λ at. at < length c.args.arguments.now)) c.in-Some.is c.in_ok-place.ensures.within) c.index-arguments-place.is (ap (λ (a : Argument). a.name.at) (sym c.index-arguments-place.is) ∙ sym (ap (λ (v : NamedValue). v.0.1) (open_argument c.index-arguments-place.result))) ∙ ap repeated_at (sym (map_twice argument_identifier named_value c.args.arguments.now))

pub returns-in-None : goal.returns-in-None
returns-in-None c = not_repeated (λ (a : Argument). (named_value a).0) (λ (a : Argument). a.name.text) (λ a. sym (ap (λ (v : NamedValue). v.0.0) (open_argument a))) c.args.arguments.now (sym c.in-None.is ∙ c.in_ok-place.ensures.place) ∙ ap repeated_at (sym (map_twice argument_identifier named_value c.args.arguments.now))
