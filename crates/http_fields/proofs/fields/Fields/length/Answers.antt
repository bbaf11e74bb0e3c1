-- The other values say the number of the first one.
use Rattle.std.proofs.Common.{◌≡◌, rules, tests, refl, sym, ◌∙◌}
use Rattle.std.specs.Prelude.{codes}
use Rattle.std.specs.List.{list_all}
use Rattle.std.proofs.lemmas.Iterator.Consumers.{YieldsList-from_first}
use Rattle.std.proofs.lemmas.Iterator.Search.{all_from_yields_List}
use Rattle.http_fields.specs.Fields.{is_length_of, pairs_of, values_left, values_of}
use Rattle.http_fields.proofs.Cases.{length_said, no_length}
use Rattle.http_fields.proofs.fields.Fields.length.Goals as goal

pub returns-then-all : goal.returns-then-all
returns-then-all c =
    let alike : c.all.result ≡ list_all (is_length_of c.number_of-length.result) (values_left c.next.new.self) =
    all_from_yields_List (is_length_of c.number_of-length.result) c.all.new.self _ _ c.all.ensures.ran
    (YieldsList-from_first (λ x. x.now) values_left _ refl) (λ x b q k. search (rules, tests)) in
    length_said (values_of (codes "content-length") (pairs_of c.args.self)) c.in-Some.first.now (values_left c.next.new.self) c.number_of-length.result
    (search rules) (search rules) c.number_of-length.ensures (sym alike ∙ c.if-all.true)

pub returns-else-all : goal.returns-else-all
returns-else-all c =
    let alike : c.all.result ≡ list_all (is_length_of c.number_of-length.result) (values_left c.next.new.self) =
    all_from_yields_List (is_length_of c.number_of-length.result) c.all.new.self _ _ c.all.ensures.ran
    (YieldsList-from_first (λ x. x.now) values_left _ refl) (λ x b q k. search (rules, tests)) in
    no_length (values_of (codes "content-length") (pairs_of c.args.self)) c.in-Some.first.now (values_left c.next.new.self) c.number_of-length.result
    (search rules) c.number_of-length.ensures (sym alike ∙ c.if-all.false)
