use Rattle.std.proofs.Common.{rules, ◌∙◌, ◌+◌, ap, get_or}
use Rattle.cost_num.specs.Capped.{capped}
use Rattle.cost_shares.specs.declared.share.Share.{Share}
use Rattle.cost_tables.specs.Tables.{nothing}
use Rattle.cost_tables.proofs.Written.{share_added, all_added}
use Rattle.cost_tables.proofs.table.added.Goals as goal

pub loop-share-preserved : goal.loop-share-preserved
loop-share-preserved c =
    let share : Share = get_or c.args.shares.now c.loop-share.share-index nothing in (
      search rules,
      share_added c.args.shares.now c.loop-share.share-index c.loop-share.sum c.add_capped-sum.result share c.loop-share-test.true (search rules)
          (c.add_capped-sum.ensures ∙ ap (λ n. capped (c.loop-share.sum + n)) c.min.ensures) c.loop-share.invariant.1,
    )

pub returns-clause-sum : goal.returns-clause-sum
returns-clause-sum c = all_added c.args.shares.now c.loop-share.share-index c.loop-share.sum (search rules) c.loop-share.invariant.0 c.loop-share.invariant.1
