-- The rows of a history, and the steps of its calls. One list has the entries of all clients: the caller of an entry is its client's number.
use Rattle.std.specs.Prelude.{ℕ, ◌+◌, List, [], ◌∷◌, ◌++◌}
use Rattle.account_core.specs.declared.Account.{Account}
use Rattle.account_core.specs.declared.Limit.{Limit}
use Rattle.account_core.specs.Machine.{Grant, Call, reservation, settlement, CallReply, granted, done, Entry, account_of}
use Rattle.account_core.specs.History.{state_after, entries_by, grants_by, NumbersBelow, IsNext, IsLegal}
use Rattle.account_core.specs.Sums.{open_grants, settling_entry}
use Rattle.account_store.specs.declared.step.Step.{Step}
use Rattle.account_store.specs.Steps.{Rows, row_of, opening_steps, closing_steps, recovered_account}

-- a client's account after its entries among these
abbrev pub account_after : (ℕ → Limit) → List Entry → ℕ → Account
account_after limits history client = account_of (state_after (limits client) (entries_by client history))

-- the rows of all accounts and of all open grants after a history
abbrev pub rows_after : (ℕ → Limit) → List Entry → Rows
rows_after limits history = record { accounts = λ client. row_of (account_after limits history client); grants = open_grants history }

-- the steps of a call with its reply, behind which its client's account is this one: a refusal has none
abbrev pub steps_of_call : ℕ → ℕ → Account → Call → CallReply → List Step
steps_of_call client number account (reservation window bound) (granted at) = opening_steps client account number bound
steps_of_call client number account (settlement of window bound measured) done = closing_steps client account of
steps_of_call client number account _ _ = []

-- the steps of an entry behind a history
abbrev pub steps_after : (ℕ → Limit) → List Entry → Entry → List Step
steps_after limits history e = steps_of_call e.caller e.number (account_after limits (history ++ e ∷ []) e.caller) e.call e.reply

-- the steps of more entries, one after the other
abbrev pub steps_on : (ℕ → Limit) → List Entry → List Entry → List Step
steps_on limits history [] = []
steps_on limits history (e ∷ es) = steps_after limits history e ++ steps_on limits (history ++ e ∷ []) es

-- each client's entries are legal under its limit
abbrev pub AreLegal : (ℕ → Limit) → List Entry → Type 0
AreLegal limits history = (client : ℕ) → IsLegal (limits client) (entries_by client history)

-- The entries come next after a history, each in the history of its own client.
abbrev pub ComeNext : (ℕ → Limit) → List Entry → List Entry → Type 0
ComeNext limits history [] = Unit {0}
ComeNext limits history (e ∷ es) = IsNext (limits e.caller) (entries_by e.caller history) e × ComeNext limits (history ++ e ∷ []) es

-- the settlements of these grants at their bounds, under numbers from one on
abbrev pub settlings : ℕ → List Grant → List Entry
settlings number [] = []
settlings number (g ∷ gs) = settling_entry number g.bound g ∷ settlings (number + 1) gs

-- no call of a client has this number or a later one
abbrev pub IsFreeNumber : ℕ → List Entry → Type 0
IsFreeNumber number history = (client : ℕ) → NumbersBelow number (entries_by client history)

-- a client's entries, and the settlements at their bounds of the grants that it left open
abbrev pub charged : ℕ → List Entry → ℕ → List Entry
charged number history client = entries_by client history ++ settlings number (grants_by client (open_grants history))

-- the account of a client as it is read from these rows
abbrev pub account_read : Rows → ℕ → Account
account_read rows client = recovered_account (rows.accounts client) (grants_by client rows.grants)
