use Rattle.std.proofs.Common.{◌<◌, length, refl, sym, ap, ◌∙◌, subst}
use Rattle.std.specs.Prelude.{IfSome}
use Rattle.document_rules.proofs.Repeats.{repeated_there, not_repeated}
use Rattle.std.specs.Borrow.{Bor}
use Rattle.gql_base.specs.declared.parts.trees.Name.{Name}
use Rattle.document_rules.specs.Views.{seen_name}
use Rattle.document_rules.proofs.rules.repeated_name.repeated_at.Goals as goal

pub returns-in-Some : goal.returns-in-Some
returns-in-Some c = repeated_there (seen_name) (λ (r : Bor Name). r.now.text) (λ r. refl) c.args.names.now c.in-Some.place c.index-names-place.result _ (sym c.in-Some.is ∙ c.in_ok-place.ensures.place)
    (subst (λ o. IfSome o (λ at. at < length c.args.names.now)) c.in-Some.is c.in_ok-place.ensures.within) c.index-names-place.is (ap (λ (r : Bor Name). r.now.at) (sym c.index-names-place.is))

pub returns-in-None : goal.returns-in-None
returns-in-None c = not_repeated (seen_name) (λ (r : Bor Name). r.now.text) (λ r. refl) c.args.names.now (sym c.in-None.is ∙ c.in_ok-place.ensures.place)
