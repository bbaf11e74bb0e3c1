use Rattle.std.proofs.Common.{◌∙◌}
use Rattle.std.proofs.lemmas.Result.{err_from_is_err_and}
use Rattle.store_trees.specs.Opening.{HasFailed}
use Rattle.store_trees.proofs.Refusals.{read_refused, meta_refused}
use Rattle.store_trees.proofs.opening.read_meta.Goals as goal

pub returns-in_err-rows-clause-refused : goal.returns-in_err-rows-clause-refused
returns-in_err-rows-clause-refused g c =
    let p = err_from_is_err_and c.from_residual.result c.from_residual.ensures.1 in
    rw (p.1, p.2) (λ clean. read_refused (g.S.Store.view c.args.store.now).trees c.args.seconds (HasFailed g.S.Store.view g.S.Store.faults c.args.store.now c.rows_of.new.store) c.in_err-rows.field-0.0 (c.in_err-rows.ensures.refused clean))

pub returns-in_err-suits-clause-refused : goal.returns-in_err-suits-clause-refused
returns-in_err-suits-clause-refused g c =
    let p = err_from_is_err_and c.from_residual-in_err-suits.result c.from_residual-in_err-suits.ensures.1 in
    rw (p.1, p.2) (λ clean. meta_refused (g.S.Store.view c.args.store.now).trees c.args.seconds (HasFailed g.S.Store.view g.S.Store.faults c.args.store.now c.rows_of.new.store) c.deref.result.now
    (c.deref.ensures.value ∙ (c.in_ok-rows.ensures.rows clean).rows) c.in_err-suits.field-0.0 c.in_err-suits.ensures.refused)
