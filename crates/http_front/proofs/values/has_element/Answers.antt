-- One of the elements is the wanted one.
use Rattle.std.proofs.Common.{rules, tests}
use Rattle.std.proofs.lemmas.Iterator.Consumers.{YieldsList-from_first}
use Rattle.std.proofs.lemmas.Iterator.Search.{any_from_yields_List}
use Rattle.http_fields.specs.Fields.{same_in_any_case}
use Rattle.http_front.specs.Fields.{elements_left}
use Rattle.http_front.proofs.values.has_element.Goals as goal

pub returns : goal.returns
returns c =
    any_from_yields_List (λ e. same_in_any_case e c.args.wanted.now) _ _ _ c.any.ensures.ran
    (YieldsList-from_first (λ x. x.now) elements_left _ c.of.ensures) (λ x b q k. search (rules, tests))
