use Rattle.std.proofs.Common.{◌≡◌, ◌≤◌, take, length, vec_capacity}
use Rattle.journal_serving.proofs.keeping.put_accounts.Given as goal

-- What was put so far are the accounts of the first clients, and there is room for all.
abbrev pub invariant-clients : goal.invariant-clients
invariant-clients g l = (l.into.items ≡ take l.client l.journal.accounts.items) × (length l.journal.accounts.items ≤ vec_capacity l.into)
