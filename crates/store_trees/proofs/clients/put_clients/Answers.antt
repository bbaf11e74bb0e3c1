use Rattle.std.proofs.Common.{ℕ, sym, ap, subst}
use Rattle.std.proofs.lemmas.Result.{err_from_is_err_and}
use Rattle.store_trees.specs.Tables.{client_tree}
use Rattle.store_trees.specs.Clients.{TakesClients}
use Rattle.store_trees.specs.Opening.{HasFailed}
use Rattle.store_trees.proofs.Refusals.{keep_fails, failed_on}
use Rattle.store_trees.proofs.Sequences.{was_clean, quiet_on, schema_on, tables_kept}
use Rattle.store_trees.proofs.Numberings.{puts_on, puts_one}
use Rattle.store_trees.proofs.clients.put_clients.Goals as goal

pub clients-preserved : goal.clients-preserved
clients-preserved g c =
    let inv = c.clients.invariant in
    let one = c.in_ok-put_client.ensures in
    let old = g.S.Store.view c.args.store.now in
    let mid = g.S.Store.view c.clients.store in
    let new = g.S.Store.view c.put_client.new.store in (
      tables_kept mid new inv.0 one.schema one.quiet.clean,
      (λ clean. puts_on old mid new c.args.clients.now c.clients.client-index _ c.clients-test.true (inv.1 (was_clean mid new one.quiet.clean clean)) (puts_one mid new _ (one.ok clean))),
      quiet_on g.S.Store.view g.S.Store.faults g.S.Store.recovers g.S.Store.is_shielded c.args.store.now c.clients.store c.put_client.new.store inv.2 one.quiet,
      schema_on old mid new inv.3 one.schema,
    )

pub returns-in_err-put_client-clause-cause : goal.returns-in_err-put_client-clause-cause
returns-in_err-put_client-clause-cause g c =
    let p = err_from_is_err_and c.from_residual.result c.from_residual.ensures.1 in
    rw (p.1, p.2) (λ clean.
    let start = c.args.store.now in
    let mid = c.clients.store in
    let new = c.put_client.new.store in
    let view = g.S.Store.view in
    let inv = c.clients.invariant in
    let was = was_clean (view mid) (view new) c.in_err-put_client.ensures.quiet.clean clean in
    let failed = HasFailed view g.S.Store.faults in
    keep_fails (failed mid new) (failed start new) (¬ TakesClients ((view mid).reals client_tree)) (¬ TakesClients ((view start).reals client_tree)) c.in_err-put_client.field-0.0
    (failed_on view g.S.Store.faults start mid new (inv.1 was).sound inv.2.counts)
    (λ un all. un (subst TakesClients (sym (ap (λ (r : ℕ → ℕ). r client_tree) inv.3.reals)) all)) (c.in_err-put_client.ensures.cause clean))
