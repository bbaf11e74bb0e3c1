-- One of the values is not `chunked`.
use Rattle.std.proofs.Common.{rules, tests, ap, not}
use Rattle.std.specs.Prelude.{codes}
use Rattle.std.proofs.lemmas.Iterator.Consumers.{YieldsList-from_first}
use Rattle.std.proofs.lemmas.Iterator.Search.{all_from_yields_List}
use Rattle.http_fields.specs.Fields.{same_in_any_case, values_left}
use Rattle.upstream_link.proofs.framing.has_other_coding.Goals as goal

pub returns : goal.returns
returns c =
    ap not (all_from_yields_List (λ v. same_in_any_case v (codes "chunked")) c.all.new.self _ _ c.all.ensures.ran
    (YieldsList-from_first (λ x. x.now) values_left _ c.named.ensures) (λ x b q k. search (rules, tests)))
