use Rattle.std.proofs.Common.{ℕ, ap, ◌∙◌, arith}
use Rattle.std.proofs.lemmas.Result.{on_ok_weaker, err_from_is_err_and}
use Rattle.sqlite_trees.specs.View.{IsClean}
use Rattle.store_trees.specs.Tables.{meta_tree}
use Rattle.store_trees.specs.Opening.{HasFailed, FailsFor}
use Rattle.store_trees.proofs.Sequences.{was_clean}
use Rattle.store_trees.proofs.Tablings.{set_sound}
use Rattle.store_trees.proofs.Refusals.{fails_since, err_weaker}
use Rattle.store_trees.proofs.making.say_meta.Goals as goal

pub put_meta-requires-clause-plain : goal.put_meta-requires-clause-plain
put_meta-requires-clause-plain g c clean = (c.requires.making clean).plain meta_tree (omega arith)

pub put_meta-requires-2-clause-plain : goal.put_meta-requires-2-clause-plain
put_meta-requires-2-clause-plain g c clean =
    let was = was_clean (g.S.Store.view c.args.store.now) (g.S.Store.view c.put_meta.new.store) c.in_ok-put_meta.ensures.quiet.clean clean in
    ap (λ (r : ℕ → ℕ). r meta_tree) c.in_ok-put_meta.ensures.schema.reals ∙ (c.requires.making was).plain meta_tree (omega arith)

pub returns-clause-sound : goal.returns-clause-sound
returns-clause-sound g c = on_ok_weaker c.put_meta-2.result (λ ok clean. set_sound _ _ _ _ (ok clean)) c.put_meta-2.ensures.ok

pub returns-in_err-put_meta-clause-cause : goal.returns-in_err-put_meta-clause-cause
returns-in_err-put_meta-clause-cause g c =
    let p = err_from_is_err_and c.from_residual.result c.from_residual.ensures.1 in
    rw (p.1, p.2) c.in_err-put_meta.ensures.cause

pub returns-clause-cause : goal.returns-clause-cause
returns-clause-cause g c =
    let view = g.S.Store.view in
    let faults = g.S.Store.faults in
    let start = c.args.store.now in
    let mid = c.put_meta.new.store in
    let new = c.put_meta-2.new.store in
    err_weaker c.put_meta-2.result (λ e. IsClean (view new) → FailsFor (HasFailed view faults mid new) e) (λ e. IsClean (view new) → FailsFor (HasFailed view faults start new) e)
    (λ e h clean.
    let now = was_clean (view mid) (view new) c.put_meta-2.ensures.quiet.clean clean in
    let was = was_clean (view start) (view mid) c.in_ok-put_meta.ensures.quiet.clean now in
    fails_since view faults start mid new e (c.requires.making was).sound (set_sound _ _ _ _ (c.in_ok-put_meta.ensures.ok now)) c.in_ok-put_meta.ensures.quiet.counts (h clean)) c.put_meta-2.ensures.cause
