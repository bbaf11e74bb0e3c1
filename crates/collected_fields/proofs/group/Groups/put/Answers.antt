use Rattle.std.proofs.Common.{ℕ, List, [], ◌∷◌, ◌++◌, Bool, bytes_eq, sym, ap, ◌∙◌, is_some}
use Rattle.std.specs.Borrow.{Bor}
use Rattle.std.proofs.lemmas.Result.{on_ok_weaker}
use Rattle.indexmap.specs.IndexMap.{get, keys}
use Rattle.indexmap.proofs.CallerLemmas.{insert_entry-new}
use Rattle.collected_fields.specs.declared.collected.Collected.{Collected}
use Rattle.collected_fields.specs.Walks.{numbered}
use Rattle.collected_fields.proofs.GroupLaws.{found_place, none_there, put_longer, put_new}
use Rattle.collected_fields.proofs.group.Groups.put.Goals as goal

pub returns-in-Some : goal.returns-in-Some
returns-in-Some c = on_ok_weaker c.add_to.result (λ longer fields g. put_longer fields (numbered c.args.field) c.args.self.now c.add_to.new.self c.in-Some.place c.key_of-key.result.now c.key_of-key.ensures
    (sym (found_place c.key_of-key.result.now (keys c.args.self.now.by_key)) ∙ (sym c.get_index_of.ensures.index ∙ c.in-Some.is)) longer c.add_to.ensures.keys g) c.add_to.ensures.added

pub returns-in_ok-insert-in-None : goal.returns-in_ok-insert-in-None
returns-in_ok-insert-in-None c =
    let key = c.key_of-key.result in
    let eq : Bor (List ℕ) → Bor (List ℕ) → Bool = λ a b. bytes_eq a.now b.now in
    let absent = none_there (get eq c.args.self.now.by_key key) (sym c.get_index_of.ensures.found ∙ ap is_some c.in-None.is) in
    λ fields g. put_new fields c.args.field c.args.self.now _ key _ c.key_of-key.ensures
    (sym (found_place key.now (keys c.args.self.now.by_key)) ∙ (sym c.get_index_of.ensures.index ∙ c.in-None.is))
    (c.in_ok-insert-in-None.ensures.entries ∙ insert_entry-new eq c.args.self.now.by_key key _ absent) (c.in_ok-push-in-None.ensures.items ∙ ap (λ (xs : List Collected). xs ++ (c.args.field ∷ [])) c.new-fields.ensures.items) g
