use Rattle.std.proofs.Common.{sym, subst, ◌∙◌}
use Rattle.std.proofs.lemmas.Result.{err_from_is_err_and}
use Rattle.std.specs.Prelude.{⊤}
use Rattle.store_trees.specs.Tables.{grant_tree}
use Rattle.store_trees.specs.Opening.{AreGrants, HasFailed}
use Rattle.store_trees.proofs.Refusals.{fails_on}
use Rattle.store_trees.proofs.opening.read_grants.Goals as goal

pub returns-in_err-rows-clause-refused : goal.returns-in_err-rows-clause-refused
returns-in_err-rows-clause-refused g c =
    let failed = HasFailed g.S.Store.view g.S.Store.faults c.args.store.now c.rows_of.new.store in
    let p = err_from_is_err_and c.from_residual.result c.from_residual.ensures.1 in
    rw (p.1, p.2) (λ clean. fails_on ⊤ (AreGrants ((g.S.Store.view c.args.store.now).trees grant_tree)) failed failed (λ _. tt) (λ f. f) c.in_err-rows.field-0.0 (c.in_err-rows.ensures.refused clean))

pub returns-in_err-found-clause-refused : goal.returns-in_err-found-clause-refused
returns-in_err-found-clause-refused g c =
    let failed = HasFailed g.S.Store.view g.S.Store.faults c.args.store.now c.rows_of.new.store in
    let p = err_from_is_err_and c.from_residual-in_err-found.result c.from_residual-in_err-found.ensures.1 in
    rw (p.1, p.2) (λ clean. fails_on (AreGrants c.deref.result.now) (AreGrants ((g.S.Store.view c.args.store.now).trees grant_tree)) ⊥ failed (λ are. subst AreGrants (sym (c.deref.ensures.value ∙ (c.in_ok-rows.ensures.rows clean).rows)) are) (λ f. absurd f) c.in_err-found.field-0.0 c.in_err-found.ensures.refused)
