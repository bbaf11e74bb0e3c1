-- Rows of accounts and of open grants, the steps that change them, and what steps come to.
use Rattle.std.specs.Prelude.{ℕ, ◌≡◌, ◌==◌, if◌then◌else◌, not, List, [], ◌∷◌, ◌++◌}
use Rattle.std.specs.List.{filter}
use Rattle.cost_num.specs.declared.Cost.{Cost}
use Rattle.account_core.specs.declared.Account.{Account}
use Rattle.account_core.specs.Costs.{nothing, together, counted_in}
use Rattle.account_core.specs.Machine.{Grant, grant, is_grant, held_in}
use Rattle.account_store.specs.declared.step.AccountRow.{AccountRow}
use Rattle.account_store.specs.declared.step.GrantRow.{GrantRow}
use Rattle.account_store.specs.declared.step.Step.{Step}
use Rattle.account_store.specs.declared.step.Step.TheVariants.{Accounted, Opened, Closed}

-- a row for each client, and the open grants in the order in which they were opened
pub record Rows : Type 0 where
  pub accounts : ℕ → AccountRow
  pub grants : List Grant

-- the row of a client that has no account yet
abbrev pub no_row : AccountRow
no_row = record { window = 0; settled = nothing; carried = nothing }

abbrev pub no_rows : Rows
no_rows = record { accounts = λ client. no_row; grants = [] }

-- an open grant as the machine lists it: its caller is its client
abbrev pub grant_of : GrantRow → Grant
grant_of g = grant g.client g.number g.window g.bound

abbrev pub with_row : ℕ → AccountRow → (ℕ → AccountRow) → ℕ → AccountRow
with_row client row accounts other = if client == other then row else accounts other

-- what a step leaves
abbrev pub stepped : Rows → Step → Rows
stepped rows (Accounted client row) = record { accounts = with_row client row rows.accounts; grants = rows.grants }
stepped rows (Opened g) = record { accounts = rows.accounts; grants = rows.grants ++ grant_of g ∷ [] }
stepped rows (Closed client number) = record { accounts = rows.accounts; grants = filter (λ g. not (is_grant client number g)) rows.grants }

-- what steps leave, one after the other
abbrev pub stepped_by : Rows → List Step → Rows
stepped_by rows [] = rows
stepped_by rows (s ∷ ss) = stepped_by (stepped rows s) ss

-- the same rows, client by client
pub record AreSameRows (rows others : Rows) : Type 0 where
  pub accounts : (client : ℕ) → rows.accounts client ≡ others.accounts client
  pub grants : rows.grants ≡ others.grants

-- ---- the steps of a call

abbrev pub row_of : Account → AccountRow
row_of account = record { window = account.window; settled = account.settled; carried = account.carried }

-- of a grant, behind which the client's account is this one
abbrev pub opening_steps : ℕ → Account → ℕ → Cost → List Step
opening_steps client account number bound =
    Accounted client (row_of account) ∷ Opened (record { client = client; number = number; window = account.window; bound = bound }) ∷ []

-- of a settlement of the client's grant of a number
abbrev pub closing_steps : ℕ → Account → ℕ → List Step
closing_steps client account number = Accounted client (row_of account) ∷ Closed client number ∷ []

-- ---- what rows come to when they are read again

-- the account once each of these grants, which are the client's open ones, is settled at its bound
abbrev pub recovered_account : AccountRow → List Grant → Account
recovered_account row gs = record { window = row.window; settled = together row.settled (held_in row.window gs); held = nothing; carried = row.carried }

-- a row once this grant of its client is settled at its bound
abbrev pub charged_row : AccountRow → Grant → AccountRow
charged_row row g = record { window = row.window; settled = together row.settled (counted_in row.window g.window g.bound); carried = row.carried }

-- the steps that settle a client's open grants at their bounds, one after the other, from its row on
abbrev pub recovery_steps : AccountRow → List Grant → List Step
recovery_steps row [] = []
recovery_steps row (g ∷ gs) = Accounted g.caller (charged_row row g) ∷ Closed g.caller g.number ∷ recovery_steps (charged_row row g) gs
