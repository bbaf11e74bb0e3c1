use Rattle.std.proofs.Common.{◌++◌, ap, ◌∙◌}
use Rattle.std.proofs.lemmas.Result.{err_from_is_err_and}
use Rattle.account_store.proofs.SameRows.{found_same}
use Rattle.account_store.proofs.mem_keeper.MemKeeperKeeper.commit.Goals as goal

pub returns-clause-durable : goal.returns-clause-durable
returns-clause-durable c before found holds finds = found_same found (before ++ c.args.batch.now) (finds ∙ (c.in_ok-keep.ensures.kept ∙ ap (λ l. l ++ c.args.batch.now) holds))

pub returns-in_err-keep-clause-reason : goal.returns-in_err-keep-clause-reason
returns-in_err-keep-clause-reason c =
    let p = err_from_is_err_and c.from_residual.result c.from_residual.ensures.1 in
    rw (p.1, p.2) c.in_err-keep.ensures.reason
