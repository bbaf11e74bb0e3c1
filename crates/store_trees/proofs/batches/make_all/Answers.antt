use Rattle.std.proofs.Common.{ℕ, get_or, sym, subst}
use Rattle.std.proofs.lemmas.Result.{err_from_is_err_and}
use Rattle.account_store.specs.declared.step.Step.{Step}
use Rattle.account_store.specs.declared.step.Step.TheVariants.{Accounted}
use Rattle.store_trees.specs.Keeping.{CanKeep, CanKeepAll}
use Rattle.store_trees.specs.Opening.{HasFailed}
use Rattle.store_trees.proofs.Refusals.{keep_fails, failed_on, kept_at}
use Rattle.store_trees.proofs.Sequences.{makes_on, was_clean, stands_on, quiet_on, schema_on}
use Rattle.store_trees.proofs.batches.make_all.Goals as goal

pub steps-preserved : goal.steps-preserved
steps-preserved g c =
    let inv = c.steps.invariant in
    let one = c.in_ok-make.ensures in
    let old = g.S.Store.view c.args.store.now in
    let mid = g.S.Store.view c.steps.store in
    let new = g.S.Store.view c.make.new.store in (
      one.tables,
      (λ clean. makes_on old mid new c.args.steps.now c.steps.step-index _ c.steps-test.true (inv.1 (was_clean mid new one.quiet.clean clean)) (one.ok clean)),
      quiet_on g.S.Store.view g.S.Store.faults g.S.Store.recovers g.S.Store.is_shielded c.args.store.now c.steps.store c.make.new.store inv.2 one.quiet,
      stands_on old mid new one.quiet.clean inv.3 one.stands,
      schema_on old mid new inv.4 one.schema,
    )

pub returns-in_err-make-clause-cause : goal.returns-in_err-make-clause-cause
returns-in_err-make-clause-cause g c =
    let p = err_from_is_err_and c.from_residual.result c.from_residual.ensures.1 in
    rw (p.1, p.2) (λ clean.
    let start = c.args.store.now in
    let mid = c.steps.store in
    let new = c.make.new.store in
    let view = g.S.Store.view in
    let inv = c.steps.invariant in
    let steps = c.args.steps.now in
    let was = was_clean (view mid) (view new) c.in_err-make.ensures.quiet.clean clean in
    let failed = HasFailed view g.S.Store.faults in
    let d : Step = Accounted 0 (record { window = 0; settled = record { types = 0; fields = 0 }; carried = record { types = 0; fields = 0 } }) in
    let step = get_or steps c.steps.step-index d in
    keep_fails (failed mid new) (failed start new) (¬ CanKeep (view mid).reals step) (¬ CanKeepAll (view start).reals steps) c.in_err-make.field-0.0
    (failed_on view g.S.Store.faults start mid new (inv.1 was).sound inv.2.counts)
    (λ un all. un (subst (λ (r : ℕ → ℕ). CanKeep r step) (sym inv.4.reals) (kept_at (view start).reals steps c.steps.step-index d all c.steps-test.true))) (c.in_err-make.ensures.cause clean))
