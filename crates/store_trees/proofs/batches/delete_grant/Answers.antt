use Rattle.sqlite_disk.specs.Disk.{MoreFaults}
use Rattle.sqlite_trees.specs.View.{IsClean, HasCause}
use Rattle.store_trees.specs.Keeping.{IsSmall}
use Rattle.store_trees.specs.Opening.{HasFailed, KeepFails}
use Rattle.store_trees.proofs.Refusals.{keep_cause, if_clean}
use Rattle.store_trees.proofs.batches.delete_grant.Goals as goal

pub returns-clause-cause : goal.returns-clause-cause
returns-clause-cause g c =
    let old = c.args.store.now in
    let v = g.S.Store.view old in
    let new = c.delete.new.self in
    let faults = g.S.Store.faults in
    let unkept = ¬ IsSmall c.args.number in
    if_clean c.delete.result (IsClean (g.S.Store.view new)) (HasCause v (MoreFaults (faults old) (faults new)) ⊥) (KeepFails (HasFailed g.S.Store.view faults old new) unkept)
    (λ e clean h. keep_cause v (faults old) (faults new) ⊥ unkept e (λ none. absurd none) h) c.delete.ensures.cause
