use Rattle.std.proofs.Common.{ℕ, sym, subst, inl}
use Rattle.std.proofs.lemmas.Result.{err_from_is_err_and}
use Rattle.sqlite_disk.specs.Disk.{MoreFaults}
use Rattle.sqlite_trees.specs.View.{IsClean, HasCause, IsStorableRow}
use Rattle.store_trees.specs.Tables.{meta_tree}
use Rattle.store_trees.specs.Opening.{HasFailed, FailsFor}
use Rattle.store_trees.proofs.Sequences.{was_clean}
use Rattle.store_trees.proofs.MadeRows.{meta_storable}
use Rattle.store_trees.proofs.Refusals.{caused_not, if_clean}
use Rattle.store_trees.proofs.making.put_meta.Goals as goal

pub returns-in_err-write_meta-clause-cause : goal.returns-in_err-write_meta-clause-cause
returns-in_err-write_meta-clause-cause g c =
    let p = err_from_is_err_and c.from_residual.result c.from_residual.ensures.1 in
    rw (p.1, p.2) (λ clean. inl c.in_err-write_meta.ensures.memory)

pub returns-clause-cause : goal.returns-clause-cause
returns-clause-cause g c =
    let old = c.args.store.now in
    let v = g.S.Store.view old in
    let new = c.put.new.self in
    let row = c.write_meta.new.row in
    let faults = g.S.Store.faults in
    let unstored = ¬ IsStorableRow (v.reals meta_tree) row in
    if_clean c.put.result (IsClean (g.S.Store.view new)) (HasCause v (MoreFaults (faults old) (faults new)) unstored) (FailsFor (HasFailed g.S.Store.view faults old new))
    (λ e clean h. caused_not v (faults old) (faults new) unstored e (λ un.
    let was = was_clean v (g.S.Store.view new) c.put.ensures.quiet.clean clean in
    un (subst (λ (n : ℕ). IsStorableRow n row) (sym (c.requires.plain was)) (subst (IsStorableRow 0) (sym c.in_ok-write_meta.ensures.written) (meta_storable c.args.number c.args.value)))) h) c.put.ensures.cause
