-- One of the values has the element.
use Rattle.std.proofs.Common.{rules, tests}
use Rattle.std.specs.Prelude.{codes}
use Rattle.std.proofs.lemmas.Iterator.Consumers.{YieldsList-from_first}
use Rattle.std.proofs.lemmas.Iterator.Search.{any_from_yields_List}
use Rattle.http_fields.specs.Fields.{values_left}
use Rattle.http_front.specs.Fields.{has_element}
use Rattle.http_front.proofs.reading.says_close.Goals as goal

pub returns : goal.returns
returns c =
    any_from_yields_List (has_element (codes "close")) c.any.new.self _ _ c.any.ensures.ran
    (YieldsList-from_first (λ x. x.now) values_left _ c.named.ensures) (λ x b q k. search (rules, tests))
