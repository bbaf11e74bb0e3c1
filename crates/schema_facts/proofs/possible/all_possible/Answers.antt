use Rattle.std.proofs.Common.{map, ap, ◌∙◌}
use Rattle.std.proofs.lemmas.Result.{IfOk-weaker}
use Rattle.schema_facts.specs.Facts.{known_type, numbers_in}
use Rattle.schema_facts.specs.Possible.{implemented, joined, joining}
use Rattle.schema_facts.proofs.TurnedLists.{turned_as}
use Rattle.schema_facts.proofs.PossibleSteps.{found_possible}
use Rattle.schema_facts.proofs.possible.all_possible.Goals as goal

pub returns : goal.returns
returns c =
    let types = map known_type c.args.types.now.items.items in
    let unions = map numbers_in c.deref-3.result.now in
    IfOk-weaker c.found.result _ _ (λ v is. is ∙
    found_possible types unions
    (turned_as c.deref-2.result.now (map (joined types) types) (map numbers_in c.in_ok-unions.unions.items) unions (ap (map numbers_in) c.deref-2.ensures.value ∙ c.in_ok-joined.ensures) (ap (map numbers_in) c.deref-3.ensures.value) c.in_ok-unions.ensures)
    (map numbers_in c.deref-5.result.now) (map numbers_in c.deref-6.result.now)
    (turned_as c.deref.result.now (map (implemented types) types) (map numbers_in c.in_ok-implementing.implementing.items) (map numbers_in c.deref-5.result.now)
    (ap (map numbers_in) c.deref.ensures.value ∙ c.in_ok-implemented.ensures) (ap (map numbers_in) c.deref-5.ensures.value) c.in_ok-implementing.ensures)
    (turned_as c.deref-4.result.now (map (joining types unions) types) (map numbers_in c.in_ok-members.members.items) (map numbers_in c.deref-6.result.now)
    (ap (map numbers_in) c.deref-4.ensures.value ∙ c.in_ok-joining.ensures) (ap (map numbers_in) c.deref-6.ensures.value) c.in_ok-members.ensures)) c.found.ensures
