use Rattle.std.proofs.Common.{sym, subst, ◌∙◌}
use Rattle.std.proofs.lemmas.Result.{err_from_is_err_and}
use Rattle.std.specs.Prelude.{⊤}
use Rattle.store_trees.specs.Tables.{client_tree}
use Rattle.store_trees.specs.Clients.{AreClients}
use Rattle.store_trees.specs.Opening.{HasFailed}
use Rattle.store_trees.proofs.Refusals.{fails_on}
use Rattle.store_trees.proofs.clients.read_known.Goals as goal

pub returns-in_err-rows-clause-refused : goal.returns-in_err-rows-clause-refused
returns-in_err-rows-clause-refused g c =
    let failed = HasFailed g.S.Store.view g.S.Store.faults c.args.store.now c.rows_of.new.store in
    let p = err_from_is_err_and c.from_residual.result c.from_residual.ensures.1 in
    rw (p.1, p.2) (λ clean. fails_on ⊤ (AreClients ((g.S.Store.view c.args.store.now).trees client_tree)) failed failed (λ _. tt) (λ f. f) c.in_err-rows.field-0.0 (c.in_err-rows.ensures.refused clean))

pub returns-in_err-known-clause-refused : goal.returns-in_err-known-clause-refused
returns-in_err-known-clause-refused g c =
    let failed = HasFailed g.S.Store.view g.S.Store.faults c.args.store.now c.rows_of.new.store in
    let p = err_from_is_err_and c.from_residual-in_err-known.result c.from_residual-in_err-known.ensures.1 in
    rw (p.1, p.2) (λ clean. fails_on (AreClients c.deref.result.now) (AreClients ((g.S.Store.view c.args.store.now).trees client_tree)) ⊥ failed (λ are. subst AreClients (sym (c.deref.ensures.value ∙ (c.in_ok-rows.ensures.rows clean).rows)) are) (λ f. absurd f) c.in_err-known.field-0.0 c.in_err-known.ensures.refused)
