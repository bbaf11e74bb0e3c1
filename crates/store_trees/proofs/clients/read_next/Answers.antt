use Rattle.std.proofs.lemmas.Result.{err_from_is_err_and}
use Rattle.store_trees.proofs.clients.read_next.Goals as goal

pub returns-clause-next : goal.returns-clause-next
returns-clause-next g c clean = (c.in_ok-known.known.clients.items, c.in_ok-known.ensures.rows clean, c.in_ok-known.ensures.known.is_next)

pub returns-in_err-known-clause-refused : goal.returns-in_err-known-clause-refused
returns-in_err-known-clause-refused g c =
    let p = err_from_is_err_and c.from_residual.result c.from_residual.ensures.1 in
    rw (p.1, p.2) (λ clean. c.in_err-known.ensures.refused clean)
