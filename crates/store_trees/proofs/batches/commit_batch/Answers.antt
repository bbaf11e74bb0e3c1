use Rattle.std.proofs.Common.{inl, inr, ◌∙◌}
use Rattle.sqlite_disk.specs.Disk.{MoreFaults}
use Rattle.sqlite_trees.specs.View.{IsClean, HasCause}
use Rattle.store_trees.specs.Keeping.{CanKeepAll}
use Rattle.store_trees.specs.Opening.{HasFailed, KeepFails}
use Rattle.store_trees.proofs.Refusals.{keep_cause, keep_fails, failed_on, failed_still, if_clean}
use Rattle.store_trees.proofs.Sequences.{clean_if_sound, was_clean}
use Rattle.store_trees.proofs.batches.commit_batch.Goals as goal

pub returns-in-Ok-clause-crash : goal.returns-in-Ok-clause-crash
returns-in-Ok-clause-crash g c db left = elim (c.commit.ensures.crash db left) [
  | inl made ↦
      let mid = g.S.Store.view c.make_all-made.new.store in
      let clean = clean_if_sound mid (g.met.S.Store.shut_if_dirty c.make_all-made.new.store) (g.met.S.Store.broken_if_shut c.make_all-made.new.store) made.0 in
      inl (was_clean (g.S.Store.view c.args.store.now) mid c.make_all-made.ensures.quiet.clean clean, made.1 ∙ (c.in-Ok.ensures.ok clean).trees)
  | inr before ↦ inr (c.make_all-made.ensures.quiet.outcomes db before)
]

pub returns-in-Ok-clause-cause : goal.returns-in-Ok-clause-cause
returns-in-Ok-clause-cause g c =
    let start = c.args.store.now in
    let mid = c.make_all-made.new.store in
    let new = c.commit.new.self in
    let view = g.S.Store.view in
    let faults = g.S.Store.faults in
    let failed = HasFailed view faults in
    let unkept = ¬ CanKeepAll (view start).reals c.args.steps.now in
    if_clean c.commit.result (IsClean (view new)) (HasCause (view mid) (MoreFaults (faults mid) (faults new)) ⊥) (KeepFails (failed start new) unkept)
    (λ e clean h. keep_fails (failed mid new) (failed start new) unkept unkept e
    (failed_on view faults start mid new (c.in-Ok.ensures.ok (was_clean (view mid) (view new) c.commit.ensures.clean clean)).sound c.make_all-made.ensures.quiet.counts) (λ u. u)
    (keep_cause (view mid) (faults mid) (faults new) ⊥ unkept e (λ none. absurd none) h)) c.commit.ensures.cause

pub returns-in-Err-clause-cause : goal.returns-in-Err-clause-cause
returns-in-Err-clause-cause g c clean =
    let start = c.args.store.now in
    let mid = c.make_all-made.new.store in
    let new = c.rollback.new.self in
    let failed = HasFailed g.S.Store.view g.S.Store.faults in
    let unkept = ¬ CanKeepAll (g.S.Store.view start).reals c.args.steps.now in
    keep_fails (failed start mid) (failed start new) unkept unkept c.in-Err.e (failed_still g.S.Store.view g.S.Store.faults start mid new c.rollback.ensures.quiet.counts) (λ u. u)
    (c.in-Err.ensures.cause (was_clean (g.S.Store.view mid) (g.S.Store.view new) c.rollback.ensures.quiet.clean clean))
