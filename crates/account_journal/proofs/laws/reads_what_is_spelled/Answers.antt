use Rattle.account_journal.proofs.Unspelled.{is_spelled}
use Rattle.account_journal.proofs.laws.reads_what_is_spelled.Goals as goal

pub returns : goal.returns
returns c body long fits r reads = is_spelled body long fits r reads
