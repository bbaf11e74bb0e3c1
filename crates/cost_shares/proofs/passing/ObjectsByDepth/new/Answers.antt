use Rattle.cost_shares.proofs.FoundShares.{counts_at_root, types_at_root}
use Rattle.cost_shares.proofs.passing.ObjectsByDepth.new.Goals as goal

pub returns : goal.returns
returns c d within = (counts_at_root d, types_at_root c.args.root.number d)
