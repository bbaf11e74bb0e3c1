use Rattle.std.proofs.Common.{length, map, ap, sym, ◌∙◌, ◌<◌, ◌≤◌, subst, rules}
use Rattle.std.proofs.lemmas.List.{length-map, drop_all}
use Rattle.schema_facts.specs.Facts.{numbers_in}
use Rattle.schema_facts.specs.Turning.{put_lists, nones}
use Rattle.schema_facts.proofs.TurnedLists.{all_turned}
use Rattle.schema_facts.proofs.turned.turned.Goals as goal

pub returns : goal.returns
returns c = λ place h.
    let same_length = length-map c.args.lists.now numbers_in in
    let past : length c.args.lists.now ≤ c.lists.number = search rules in
    all_turned (map numbers_in c.args.lists.now) (map numbers_in c.lists.found.items) place
    (sym (ap (λ l. put_lists c.lists.number (map numbers_in l) (map numbers_in c.lists.found.items)) (drop_all c.lists.number c.args.lists.now past)) ∙ c.lists.invariant
    ∙ ap (λ n. put_lists 0 (map numbers_in c.args.lists.now) (nones n)) (sym same_length))
    (subst (λ m. place < m) (sym same_length) h)
