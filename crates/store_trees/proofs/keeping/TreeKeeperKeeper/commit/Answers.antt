use Rattle.std.proofs.Common.{◌++◌, inl, inr, ◌∙◌}
use Rattle.std.proofs.lemmas.Result.{err_from_is_err_and}
use Rattle.sqlite_trees.specs.Tree.{no_trees}
use Rattle.store_trees.proofs.Sequences.{kept_on, was_clean, agree_both}
use Rattle.store_trees.proofs.Showing.{comes_to}
use Rattle.store_trees.proofs.keeping.TreeKeeperKeeper.commit.Goals as goal

pub returns-clause-holds : goal.returns-clause-holds
returns-clause-holds g c before holds clean =
    let was = was_clean (g.S.Store.view c.args.self.now.store) (g.S.Store.view c.keep.new.self.store) c.in_ok-keep.ensures.clean clean in
    kept_on no_trees _ _ before c.args.batch.now (holds was) (c.in_ok-keep.ensures.ok clean).trees

pub returns-clause-durable : goal.returns-clause-durable
returns-clause-durable g c before found holds finds =
    let clean = finds.0 in
    let was = was_clean (g.S.Store.view c.args.self.now.store) (g.S.Store.view c.keep.new.self.store) c.in_ok-keep.ensures.clean clean in
    let same = g.met.S.Store.settled c.keep.new.self.store finds.2 (c.in_ok-keep.ensures.open clean) finds.3 ∙ (c.in_ok-keep.ensures.ok clean).committed in
    comes_to found (before ++ c.args.batch.now) finds.1
    (agree_both finds.2 _ _ finds.4 (kept_on no_trees _ finds.2 before c.args.batch.now (holds was) same))

pub returns-clause-crash : goal.returns-clause-crash
returns-clause-crash g c before found holds finds =
    let was = was_clean (g.S.Store.view c.args.self.now.store) (g.S.Store.view c.keep.new.self.store) c.in_ok-keep.ensures.clean finds.0 in
    elim (c.in_ok-keep.ensures.crash finds.2 finds.3) [
      | inl made ↦ inr (comes_to found (before ++ c.args.batch.now) finds.1 (agree_both finds.2 _ _ finds.4 (kept_on no_trees _ finds.2 before c.args.batch.now (holds was) made.1)))
      | inr earlier ↦ inl (was, finds.1, finds.2, earlier, finds.4)
    ]

pub returns-in_err-keep-clause-crash : goal.returns-in_err-keep-clause-crash
returns-in_err-keep-clause-crash g c before found holds finds =
    let was = was_clean (g.S.Store.view c.args.self.now.store) (g.S.Store.view c.keep.new.self.store) c.in_err-keep.ensures.clean finds.0 in
    elim (c.in_err-keep.ensures.crash finds.2 finds.3) [
      | inl made ↦ inr (comes_to found (before ++ c.args.batch.now) finds.1 (agree_both finds.2 _ _ finds.4 (kept_on no_trees _ finds.2 before c.args.batch.now (holds was) made.1)))
      | inr earlier ↦ inl (was, finds.1, finds.2, earlier, finds.4)
    ]

pub returns-in_err-keep-clause-reason : goal.returns-in_err-keep-clause-reason
returns-in_err-keep-clause-reason g c =
    let p = err_from_is_err_and c.from_residual.result c.from_residual.ensures.1 in
    rw (p.1, p.2) c.in_err-keep.ensures.reason
