use Rattle.std.proofs.Common.{◌∙◌, ap}
use Rattle.std.proofs.lemmas.Result.{IfOk-weaker}
use Rattle.definition_places.specs.Sites.{at_first, first_site, IsDefinedAt}
use Rattle.definition_places.proofs.finding.defined_at.Goals as goal

pub returns-in-Ok : goal.returns-in-Ok
returns-in-Ok c = IfOk-weaker c.first_site.result _ (IsDefinedAt c.args.text.now c.args.place.now)
    (λ at is tokens lexes. is ∙ ap (first_site c.args.text.now c.args.place.now at_first) (c.deref.ensures.value ∙ c.in-Ok.ensures.only tokens lexes)) c.first_site.ensures

pub returns-in-Err : goal.returns-in-Err
returns-in-Err c = IfOk-weaker c.no_site.result _ (IsDefinedAt c.args.text.now c.args.place.now) (λ at is tokens lexes. absurd (is.1 (c.in-Err.ensures.only tokens lexes))) c.no_site.ensures
