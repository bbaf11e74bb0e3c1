-- The one history of each client's account, and the account after it.
use Rattle.std.specs.Prelude.{◌≡◌, ◌⊎◌, ℕ, ◌+◌, ◌<◌, List, [], length, get_or}
use Rattle.account_core.specs.declared.Account.{Account}
use Rattle.account_core.specs.declared.Limit.{Limit}
use Rattle.account_core.specs.Costs.{nothing}
use Rattle.account_core.specs.Machine.{Entry, account_of}
use Rattle.account_core.specs.History.{IsLegal, entries_by, state_after}
use Rattle.account_core.specs.Sums.{KeepsAllowance}
use Rattle.account_shared.specs.Gains.{entries_for}
use Rattle.client_files.specs.declared.client.Client.{Client}
use Rattle.gateway_workers.specs.Decisions.{client_limit}
use Rattle.gateway_workers.specs.Tours.{Tour, calls_in}

-- It is legal, and keeps to the allowance at every moment and in every window. The callers are the doors, whose names count
-- from 1 on: the entries of each are those of its tour's calls at this client's account, in their order, and there are no others.
pub record IsHistoryOf (limit : Limit) (client : ℕ) (tours : List Tour) (history : List Entry) : Type 0 where
  pub legal : IsLegal limit history
  pub kept : KeepsAllowance limit history
  pub each : (place : ℕ) (d : Tour) → place < length tours
      → entries_by (place + 1) history ≡ entries_for client (place + 1) 0 (calls_in (get_or tours place d).runs)
  pub no_others : (caller : ℕ) → (caller ≡ 0) ⊎ (length tours < caller) → entries_by caller history ≡ []

-- An account after such a history. Nothing is held in it.
pub record IsAccountAfter (limit : Limit) (client : ℕ) (tours : List Tour) (account : Account) : Type 0 where
  pub history : List Entry
  pub is_history : IsHistoryOf limit client tours history
  pub same : account ≡ account_of (state_after limit history)
  pub idle : account.held ≡ nothing

-- an account for each client, at its place
pub record AreAccountsAfter (clients : List Client) (tours : List Tour) (accounts : List Account) : Type 0 where
  pub count : length accounts ≡ length clients
  pub each : (place : ℕ) (c : Client) (a : Account) → place < length clients
      → IsAccountAfter (client_limit (get_or clients place c)) place tours (get_or accounts place a)
