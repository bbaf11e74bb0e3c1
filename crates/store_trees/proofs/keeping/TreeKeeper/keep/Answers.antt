use Rattle.std.proofs.Common.{sym, subst}
use Rattle.sqlite_trees.specs.View.{IsClean}
use Rattle.store_trees.specs.Keeping.{CanKeepAll}
use Rattle.store_trees.specs.Opening.{HasFailed, SaysWhy}
use Rattle.store_trees.proofs.Refusals.{says_why}
use Rattle.store_trees.proofs.keeping.TreeKeeper.keep.Goals as goal

pub returns-in-Err-clause-reason : goal.returns-in-Err-clause-reason
returns-in-Err-clause-reason g c clean =
    let start = c.args.self.now.store in
    let mid = c.commit_batch.new.store in
    let view = g.S.Store.view in
    let failed = HasFailed view g.S.Store.faults start in
    let unkept = ¬ CanKeepAll (view start).reals c.args.batch.now in
    subst (λ s. IsClean (view s) → SaysWhy (failed s) unkept c.keeper_fault.result) (sym c.failed.ensures.store)
    (λ was. subst (SaysWhy (failed mid) unkept) (sym c.keeper_fault.ensures) (says_why (failed mid) unkept c.in-Err.error (c.in-Err.ensures.cause was))) clean
