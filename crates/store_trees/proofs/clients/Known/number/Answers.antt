use Rattle.std.proofs.Common.{◌≡◌, ◌<◌, ◌≤◌, ◌^◌, ◌++◌, ◌∷◌, [], ◌+◌, None, refl, sym, inl, inr, ap, ◌∙◌, arith}
use Rattle.std.proofs.lemmas.Result.{err_from_is_err_and}
use Rattle.store_trees.specs.Clients.{number_of}
use Rattle.store_trees.proofs.Refusals.{fails_on}
use Rattle.store_trees.proofs.clients.Known.number.Goals as goal

pub returns-in-Some-clause-grows : goal.returns-in-Some-clause-grows
returns-in-Some-clause-grows c = inl (refl, refl)

pub returns-clause-grows : goal.returns-clause-grows
returns-clause-grows c =
    let is = c.in-Ok.ensures.1 in
    inr (c.in_ok-add.ensures.added ∙ ap (λ n. c.args.self.now.clients.items ++ (n, c.args.sum) ∷ []) is, c.in_ok-add.ensures.next ∙ ap (λ n. n + 1) is)

pub returns-in_err-add-clause-refused : goal.returns-in_err-add-clause-refused
returns-in_err-add-clause-refused c =
    let p = err_from_is_err_and c.from_residual.result c.from_residual.ensures.1 in
    let old = c.args.self.now in
    let is : c.in-Ok.number ≡ old.next = c.in-Ok.ensures.1 in
    let new : number_of old.clients.items c.args.sum ≡ None = sym (c.in_default.ensures.value ∙ c.requires.index c.args.sum) in
    rw (p.1, p.2)
    (fails_on ((old.next ≤ c.in-Ok.number) × (number_of old.clients.items c.args.sum ≡ None)) (old.next < 2 ^ 32) ⊥ ⊥ (λ low. (omega (arith, is), new)) (λ f. f) c.in_err-add.field-0.0 c.in_err-add.ensures.refused)
