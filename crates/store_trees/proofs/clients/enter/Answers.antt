use Rattle.std.proofs.Common.{◌⊎◌, inl, inr, sym, subst, length}
use Rattle.std.proofs.lemmas.Result.{err_from_is_err_and, IfErr-weaker}
use Rattle.sqlite_disk.specs.Disk.{MoreFaults}
use Rattle.sqlite_trees.specs.View.{HasCause}
use Rattle.store_trees.specs.Opening.{HasFailed, KeepFails}
use Rattle.sqlite_trees.specs.Tree.{Trees}
use Rattle.store_trees.specs.Clients.{HaveRoom, HaveEntered, TakesClients}
use Rattle.store_trees.specs.Tables.{client_tree}
use Rattle.store_trees.proofs.Refusals.{mapped_told, either_on, fails_on, failed_on, failed_still, keep_cause, keep_fails}
use Rattle.store_trees.proofs.Sequences.{was_clean, clean_if_sound}
use Rattle.store_trees.proofs.clients.enter.Goals as goal

pub returns-in_err-map_err-in-Ok-clause-crash : goal.returns-in_err-map_err-in-Ok-clause-crash
returns-in_err-map_err-in-Ok-clause-crash g c db left = elim (c.commit.ensures.crash db left) [
  | inl made ↦
      let old = g.S.Store.view c.args.store.now in
      let mid = g.S.Store.view c.put_new.new.store in
      let clean = clean_if_sound mid (g.met.S.Store.shut_if_dirty c.put_new.new.store) (g.met.S.Store.broken_if_shut c.put_new.new.store) made.0 in
      inl (was_clean old mid c.put_new.ensures.quiet.clean clean, subst (λ (t : Trees). HaveEntered old.trees t c.args.sums.now) (sym made.1) (_, c.in-Ok.ensures.ok clean))
  | inr before ↦ inr (c.put_new.ensures.quiet.outcomes db before)
]

pub returns-in_ok-map_err-in-Ok-clause-crash : goal.returns-in_ok-map_err-in-Ok-clause-crash
returns-in_ok-map_err-in-Ok-clause-crash g c db left = elim (c.commit.ensures.crash db left) [
  | inl made ↦
      let old = g.S.Store.view c.args.store.now in
      let mid = g.S.Store.view c.put_new.new.store in
      let clean = clean_if_sound mid (g.met.S.Store.shut_if_dirty c.put_new.new.store) (g.met.S.Store.broken_if_shut c.put_new.new.store) made.0 in
      inl (was_clean old mid c.put_new.ensures.quiet.clean clean, subst (λ (t : Trees). HaveEntered old.trees t c.args.sums.now) (sym made.1) (_, c.in-Ok.ensures.ok clean))
  | inr before ↦ inr (c.put_new.ensures.quiet.outcomes db before)
]

pub returns-in-Err-clause-refused : goal.returns-in-Err-clause-refused
returns-in-Err-clause-refused g c clean =
    let view = g.S.Store.view in
    let start = c.args.store.now in
    let mid = c.put_new.new.store in
    let new = c.rollback.new.self in
    let failed = HasFailed view g.S.Store.faults start in
    let have = HaveRoom ((view start).trees client_tree) (length c.args.sums.now) in
    let none = ¬ TakesClients ((view start).reals client_tree) in
    fails_on have have (failed mid ⊎ none) (failed new ⊎ none) (λ h. h) (either_on (failed mid) (failed new) none (failed_still view g.S.Store.faults start mid new c.rollback.ensures.quiet.counts)) c.in-Err.fault
    (c.in-Err.ensures.refused (was_clean (view mid) (view new) c.rollback.ensures.quiet.clean clean))

pub returns-in_err-map_err-in-Ok-clause-refused : goal.returns-in_err-map_err-in-Ok-clause-refused
returns-in_err-map_err-in-Ok-clause-refused g c =
    let p = err_from_is_err_and c.from_residual.result c.from_residual.ensures.1 in
    let view = g.S.Store.view in
    let faults = g.S.Store.faults in
    let start = c.args.store.now in
    let mid = c.put_new.new.store in
    let new = c.commit.new.self in
    let failed = HasFailed view faults in
    let have = HaveRoom ((view start).trees client_tree) (length c.args.sums.now) in
    let none = ¬ TakesClients ((view start).reals client_tree) in
    rw (p.1, p.2) (λ clean.
    mapped_told have (failed start new) none c.commit.result _ c.in_err-map_err-in-Ok.field-0.0 (λ x said. (let e = said in cc))
    (IfErr-weaker c.commit.result (HasCause (view mid) (MoreFaults (faults mid) (faults new)) ⊥) (KeepFails (failed start new) none)
    (λ e h. keep_fails (failed mid new) (failed start new) none none e (failed_on view faults start mid new (c.in-Ok.ensures.sound (was_clean (view mid) (view new) c.commit.ensures.clean clean)) c.put_new.ensures.quiet.counts) (λ u. u)
    (keep_cause (view mid) (faults mid) (faults new) ⊥ none e (λ f. absurd f) h)) (c.commit.ensures.cause clean))
    c.in_err-map_err-in-Ok.ensures.cases)
