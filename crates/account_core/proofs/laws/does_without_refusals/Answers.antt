use Rattle.account_core.specs.Machine.{first}
use Rattle.account_core.proofs.Refusals.{without-state, without-open, without-spent, without-legal}
use Rattle.account_core.proofs.laws.does_without_refusals.Goals as goal

pub returns-clause-state : goal.returns-clause-state
returns-clause-state c limit history = without-state limit first history

pub returns-clause-open_grants : goal.returns-clause-open_grants
returns-clause-open_grants c = without-open

pub returns-clause-spent : goal.returns-clause-spent
returns-clause-spent c = without-spent

pub returns-clause-legal : goal.returns-clause-legal
returns-clause-legal c = without-legal
