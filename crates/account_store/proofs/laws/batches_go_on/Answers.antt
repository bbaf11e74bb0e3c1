use Rattle.account_store.proofs.SameRows.{stepped_by_both}
use Rattle.account_store.proofs.laws.batches_go_on.Goals as goal

pub returns : goal.returns
returns c = stepped_by_both
