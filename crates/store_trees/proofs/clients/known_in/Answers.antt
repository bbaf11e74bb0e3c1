use Rattle.std.proofs.Common.{◌≡◌, ◌≤◌, None, sym, ◌∙◌}
use Rattle.std.proofs.lemmas.Result.{err_from_is_err_and}
use Rattle.store_trees.specs.Clients.{number_of, AreClients}
use Rattle.store_trees.proofs.Refusals.{fails_on, not_clients}
use Rattle.store_trees.proofs.Numberings.{fits_behind}
use Rattle.store_trees.proofs.clients.known_in.Goals as goal

pub returns-in_default-clause-refused : goal.returns-in_default-clause-refused
returns-in_default-clause-refused c =
    not_clients c.args.rows.now c.rows.row-index c.row-item.result c.rows-test.true (λ number sum small long is. (let e = c.in_default.ensures.all number sum small long (c.row-item.is ∙ is) in cc))

pub returns-in_err-add-clause-refused : goal.returns-in_err-add-clause-refused
returns-in_err-add-clause-refused c =
    let p = err_from_is_err_and c.from_residual.result c.from_residual.ensures.1 in
    let known = c.rows.known in
    let client = c.in-Some.client in
    rw (p.1, p.2)
    (fails_on ((known.next ≤ client.0) × (number_of known.clients.items client.1 ≡ None)) (AreClients c.args.rows.now) ⊥ ⊥
    (fits_behind c.args.rows.now known.clients.items known.next client c.rows.row-index c.row-item.result c.rows.invariant.0 c.rows-test.true (sym c.row-item.is ∙ c.in-Some.ensures.found) c.rows.invariant.1)
    (λ f. f) c.in_err-add.field-0.0 c.in_err-add.ensures.refused)
