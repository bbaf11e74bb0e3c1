use Rattle.cost_shares.proofs.FoundShares.{both_added}
use Rattle.cost_shares.proofs.passing.added.Goals as goal

pub returns : goal.returns
returns c = both_added c.args.entry c.args.times c.args.value c.args.values c.times_capped.result c.times_capped-2.result c.add_capped.result c.times_capped.ensures c.times_capped-2.ensures c.add_capped.ensures
