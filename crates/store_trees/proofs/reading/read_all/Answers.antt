use Rattle.std.proofs.Common.{ap}
use Rattle.std.proofs.lemmas.Result.{err_from_is_err_and}
use Rattle.sqlite_trees.specs.View.{View}
use Rattle.store_trees.proofs.Refusals.{caused, fails_more}
use Rattle.sqlite_trees.specs.Tree.{order_of}
use Rattle.store_trees.proofs.Sequences.{was_clean, quiet_on, schema_on}
use Rattle.store_trees.proofs.Scans.{begun, went_on}
use Rattle.store_trees.proofs.reading.read_all.Goals as goal

pub rows-init : goal.rows-init
rows-init g c =
    let old = g.S.Store.view c.args.store.now in (
      (λ clean. begun old (g.S.Store.view c.seek.new.self) c.args.tree (order_of (old.shape c.args.tree)) _ c.new-rows.result.items c.new-row.ensures c.new-rows.ensures.items (c.in_ok-seek.ensures.ok clean)),
      c.in_ok-seek.ensures.live,
      c.in_ok-seek.ensures.quiet,
      c.in_ok-seek.ensures.schema,
    )

pub rows-preserved : goal.rows-preserved
rows-preserved g c =
    let mid = g.S.Store.view c.rows.store in
    let new = g.S.Store.view c.next.new.self in
    let q = c.in_ok-next.ensures.quiet in
    let inv = c.rows.invariant in (
      (λ clean. went_on (g.S.Store.view c.args.store.now) mid new c.args.tree c.rows.rows.items c.push.new.self.items _ _ _ c.if-not-branch.false c.in_ok-push.ensures.items c.in_ok-copy.ensures (inv.0 (was_clean mid new q.clean clean)) (c.in_ok-next.ensures.ok clean)),
      c.in_ok-next.ensures.stay 0 inv.1,
      quiet_on g.S.Store.view g.S.Store.faults g.S.Store.recovers g.S.Store.is_shielded c.args.store.now c.rows.store c.next.new.self inv.2 q,
      schema_on (g.S.Store.view c.args.store.now) mid new inv.3 c.in_ok-next.ensures.schema,
    )

pub returns-in_err-seek-clause-cause : goal.returns-in_err-seek-clause-cause
returns-in_err-seek-clause-cause g c =
    let p = err_from_is_err_and c.from_residual.result c.from_residual.ensures.1 in
    rw (p.1, p.2) (λ clean. caused (g.S.Store.view c.args.store.now) _ _ _ (c.in_err-seek.ensures.cause clean))

pub returns-in_err-next-clause-cause : goal.returns-in_err-next-clause-cause
returns-in_err-next-clause-cause g c =
    let p = err_from_is_err_and c.from_residual-in_err-next.result c.from_residual-in_err-next.ensures.1 in
    rw (p.1, p.2) (λ clean.
    let mid = g.S.Store.view c.rows.store in
    let was = was_clean mid (g.S.Store.view c.next.new.self) c.in_err-next.ensures.quiet.clean clean in
    fails_more g.S.Store.view g.S.Store.faults c.args.store.now c.rows.store c.next.new.self _ (ap (λ (v : View). v.is_broken) (c.rows.invariant.0 was).same) c.rows.invariant.2.counts
    (caused mid _ _ _ (c.in_err-next.ensures.cause clean)))
