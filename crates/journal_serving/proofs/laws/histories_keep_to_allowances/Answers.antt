-- What the accounts follow is legal, and what is legal keeps to the allowance.
use Rattle.std.proofs.Common.{get_or}
use Rattle.account_core.specs.History.{entries_by}
use Rattle.account_core.proofs.AllowanceLaw.{keeps}
use Rattle.account_journal.specs.Histories.{no_limit}
use Rattle.journal_serving.proofs.laws.histories_keep_to_allowances.Goals as goal

pub returns-clause-legal : goal.returns-clause-legal
returns-clause-legal c limits k client accounted there = (accounted.each client there).0

pub returns-clause-keeps : goal.returns-clause-keeps
returns-clause-keeps c limits k client accounted there = keeps (get_or limits client no_limit) (entries_by client k.history) (accounted.each client there).0
