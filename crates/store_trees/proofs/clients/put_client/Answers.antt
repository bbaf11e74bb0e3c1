use Rattle.std.proofs.Common.{sym, subst}
use Rattle.sqlite_disk.specs.Disk.{MoreFaults}
use Rattle.sqlite_trees.specs.View.{IsClean, HasCause, IsStorableRow}
use Rattle.store_trees.specs.Tables.{client_tree}
use Rattle.store_trees.specs.Clients.{TakesClients}
use Rattle.store_trees.specs.Opening.{HasFailed, KeepFails}
use Rattle.store_trees.proofs.Refusals.{keep_cause, if_clean}
use Rattle.store_trees.proofs.clients.put_client.Goals as goal

pub returns-clause-cause : goal.returns-clause-cause
returns-clause-cause g c =
    let old = c.args.store.now in
    let v = g.S.Store.view old in
    let new = c.put.new.self in
    let row = c.write_client.new.row in
    let faults = g.S.Store.faults in
    let unstored = ¬ IsStorableRow (v.reals client_tree) row in
    let unkept = ¬ TakesClients (v.reals client_tree) in
    if_clean c.put.result (IsClean (g.S.Store.view new)) (HasCause v (MoreFaults (faults old) (faults new)) unstored) (KeepFails (HasFailed g.S.Store.view faults old new) unkept)
    (λ e clean h. keep_cause v (faults old) (faults new) unstored unkept e
    (λ un can. un (subst (IsStorableRow (v.reals client_tree)) (sym c.in_ok-write_client.ensures.written) (can c.args.client.now.0 c.args.client.now.1 c.write_client.ensures.number c.write_client.ensures.sum))) h) c.put.ensures.cause
